use Rattle.lgp_phases.proofs.Bounds.{cost_at_short}
use Rattle.lgp_phases.proofs.phase.first_phase.Goals as goal

pub returns-in-Going-clause-short : goal.returns-in-Going-clause-short
returns-in-Going-clause-short g c =
    cost_at_short _ _ c.is_on-limit.ensures.few

pub returns-in-Executing-clause-short : goal.returns-in-Executing-clause-short
returns-in-Executing-clause-short g c =
    cost_at_short _ _ c.is_on-limit.ensures.few

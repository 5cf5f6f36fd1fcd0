use Rattle.std.proofs.Common.{◌∙◌}
use Rattle.lgp_history.proofs.Trails.{first_hit-recorded}
use Rattle.lgp_history.proofs.checkpoints.first_hit.Goals as goal

pub returns : goal.returns
returns g c = c.first_hit.ensures ∙ first_hit-recorded _ _ _ c.of_order-record.ensures

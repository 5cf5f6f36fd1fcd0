use Rattle.lgp_trace.proofs.Noting.{run_clock}
use Rattle.lgp_trace.proofs.runs.profile_run.Goals as goal

pub returns-clause-clock : goal.returns-clause-clock
returns-clause-clock g c =
    run_clock _ _ _ _ _ _
    c.note_orders-outcome.ensures.run c.note_orders-outcome.ensures.noted

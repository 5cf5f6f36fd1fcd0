use Rattle.lgp_history.proofs.Trails.{noted_here}
use Rattle.lgp_history.proofs.checkpoints.CheckpointsHistory.prepare.Goals as goal

pub returns-clause-fits : goal.returns-clause-fits
returns-clause-fits g c = noted_here _ _ _ _ _ _ _ _ c.self.view_is c.self.invariant.0 c.len.ensures.len c.in_ok-noted.ensures

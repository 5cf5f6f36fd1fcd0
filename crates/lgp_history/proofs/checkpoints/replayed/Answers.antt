use Rattle.std.proofs.Common.{sym}
use Rattle.lgp_history.proofs.Trails.{at_its_boundary, can_at, done_at}
use Rattle.lgp_history.proofs.checkpoints.replayed.Goals as goal

pub take_step-requires-clause-boundary : goal.take_step-requires-clause-boundary
take_step-requires-clause-boundary g c = at_its_boundary _ _ c.loop-index.invariant

pub take_step-requires-clause-possible : goal.take_step-requires-clause-possible
take_step-requires-clause-possible g c = can_at _ _ _ _ c.requires.noted (sym c.in-Some.ensures) c.loop-index.invariant

pub loop-index-preserved : goal.loop-index-preserved
loop-index-preserved g c = done_at _ _ c.loop-index.index c.args.trail.now.items _ (sym c.in-Some.ensures) c.loop-index.invariant c.in_ok-take_step.ensures

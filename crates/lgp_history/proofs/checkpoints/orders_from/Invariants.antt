use Rattle.std.proofs.Common.{◌≡◌, ◌≤◌}
use Rattle.lgp_history.specs.Steps.{orders_in}
use Rattle.lgp_history.specs.CheckpointsInside.{start_of}
use Rattle.lgp_history.proofs.Trails.{kept_to}
use Rattle.lgp_history.proofs.checkpoints.orders_from.Given as goal

abbrev pub invariant-loop-place : goal.invariant-loop-place
invariant-loop-place g l = record {
  few : l.orders ≤ l.place;
  so_far : l.orders ≡ orders_in (kept_to (start_of l.trail.items) l.trail.items l.passed l.place);
}

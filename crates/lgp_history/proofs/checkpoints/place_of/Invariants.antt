use Rattle.std.proofs.Common.{◌≡◌, ◌<◌, ◌≤◌, length, take, drop}
use Rattle.lgp_history.specs.Steps.{orders_in, state_back, steps_back}
use Rattle.lgp_history.specs.CheckpointsInside.{played, played_to, start_of}
use Rattle.lgp_history.proofs.Trails.{kept_to}
use Rattle.lgp_history.proofs.checkpoints.place_of.Given as goal

abbrev pub invariant-loop-left : goal.invariant-loop-left
invariant-loop-left g l = record {
  within : l.place ≤ length l.trail.items;
  passed : l.passed ≤ l.place;
  moved : l.left ≡ 0 → l.place < length l.trail.items;
  kept : l.left ≤ orders_in (kept_to (start_of l.trail.items) l.trail.items l.passed l.place);
  state : state_back l.left (kept_to (start_of l.trail.items) l.trail.items l.passed l.place) (played_to (start_of l.trail.items) (take l.place l.trail.items)) ≡ state_back l.fn.orders (drop l.passed (played (start_of l.trail.items) l.trail.items)) (played_to (start_of l.trail.items) l.trail.items);
  steps : steps_back l.left (kept_to (start_of l.trail.items) l.trail.items l.passed l.place) ≡ steps_back l.fn.orders (drop l.passed (played (start_of l.trail.items) l.trail.items));
}

abbrev pub decreases-loop-left : goal.decreases-loop-left
decreases-loop-left g l = l.place

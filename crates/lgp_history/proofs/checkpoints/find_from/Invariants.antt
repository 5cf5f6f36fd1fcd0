use Rattle.std.proofs.Common.{◌≡◌, ◌≤◌, take}
use Rattle.lgp_table.specs.Interleaving.{at_boundary}
use Rattle.lgp_history.specs.Hits.{last_hit}
use Rattle.lgp_history.specs.CheckpointsInside.{hit_of, played_to, start_of}
use Rattle.lgp_history.proofs.Trails.{kept_to}
use Rattle.lgp_history.proofs.checkpoints.find_from.Given as goal

abbrev pub invariant-loop-place : goal.invariant-loop-place
invariant-loop-place g l = record {
  machine : l.machine ≡ at_boundary (played_to (start_of l.trail.items) (take l.place l.trail.items));
  few : l.latest.orders ≤ l.place;
  latest : hit_of l.latest.orders l.latest.rule ≡ last_hit l.rules (kept_to (start_of l.trail.items) l.trail.items l.passed l.place);
}

use Rattle.std.proofs.Common.{◌≡◌, take}
use Rattle.lgp_table.specs.Interleaving.{at_boundary}
use Rattle.lgp_history.specs.CheckpointsInside.{played_to, start_of}
use Rattle.lgp_history.proofs.checkpoints.replayed.Given as goal

abbrev pub invariant-loop-index : goal.invariant-loop-index
invariant-loop-index g l = l.machine ≡ at_boundary (played_to (start_of l.trail.items) (take l.index l.trail.items))

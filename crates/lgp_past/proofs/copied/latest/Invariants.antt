use Rattle.std.proofs.Common.{◌≤◌, length}
use Rattle.lgp_past.proofs.copied.latest.Given as goal

abbrev pub invariant-loop-left : goal.invariant-loop-left
invariant-loop-left g l = l.left ≤ length l.copies

abbrev pub decreases-loop-left : goal.decreases-loop-left
decreases-loop-left g l = l.left

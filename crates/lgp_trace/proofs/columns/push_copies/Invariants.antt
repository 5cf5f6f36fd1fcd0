use Rattle.std.proofs.Common.{◌≡◌, ◌++◌, replicate}
use Rattle.lgp_trace.proofs.columns.push_copies.Given as goal

abbrev pub invariant-loop-done : goal.invariant-loop-done
invariant-loop-done g l = l.text.items ≡ l.fn.text.items ++ replicate l.done l.byte

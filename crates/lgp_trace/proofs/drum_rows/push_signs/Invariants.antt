use Rattle.std.proofs.Common.{◌≡◌, ◌++◌, replicate}
use Rattle.lgp_trace.specs.DrumRows.{signs_in_rows}
use Rattle.lgp_trace.proofs.drum_rows.push_signs.Given as goal

abbrev pub invariant-loop-done : goal.invariant-loop-done
invariant-loop-done g l = l.text.items ≡ l.fn.text.items ++ signs_in_rows l.clock (replicate l.done l.sign)

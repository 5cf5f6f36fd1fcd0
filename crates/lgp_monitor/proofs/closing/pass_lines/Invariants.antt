use Rattle.std.proofs.Common.{◌≡◌, drop}
use Rattle.lgp_monitor.proofs.closing.pass_lines.Given as goal

abbrev pub invariant-loop-passed : goal.invariant-loop-passed
invariant-loop-passed l = l.lines ≡ drop l._passed l.fn.lines

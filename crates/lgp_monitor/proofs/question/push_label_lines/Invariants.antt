use Rattle.std.proofs.Common.{◌≡◌, ◌++◌, drop, flat_map}
use Rattle.lgp_monitor.specs.Questions.{label_line}
use Rattle.lgp_monitor.proofs.question.push_label_lines.Given as goal

abbrev pub invariant-loop-symbol : goal.invariant-loop-symbol
invariant-loop-symbol g l = l.text.items ++ flat_map label_line (drop l.symbol-index l.symbols) ≡ l.fn.text.items ++ flat_map label_line l.symbols

use Rattle.std.proofs.Common.{◌≡◌, ◌++◌, drop}
use Rattle.lgp_monitor.specs.Questions.{rule_lines}
use Rattle.lgp_monitor.proofs.question.push_rule_lines.Given as goal

abbrev pub invariant-loop-number : goal.invariant-loop-number
invariant-loop-number g l = l.text.items ++ rule_lines l.names l.number (drop l.number l.rules) ≡ l.fn.text.items ++ rule_lines l.names 0 l.rules

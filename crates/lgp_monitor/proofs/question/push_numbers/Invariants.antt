use Rattle.std.proofs.Common.{◌≡◌, ◌++◌}
use Rattle.lgp_script.specs.DrumCommands.{lines_text}
use Rattle.lgp_monitor.specs.Questions.{number_line}
use Rattle.lgp_monitor.proofs.question.push_numbers.Given as goal

abbrev pub invariant-loop-place : goal.invariant-loop-place
invariant-loop-place g l = l.text.items ≡ l.fn.text.items ++ lines_text (number_line l.point) l.machine.state l.range.first l.place

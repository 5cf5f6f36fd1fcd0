use Rattle.std.proofs.Common.{◌≡◌, ◌++◌}
use Rattle.lgp_script.specs.DrumCommands.{lines_text}
use Rattle.lgp_script.specs.LaboratoryInside.{line_by}
use Rattle.lgp_script.proofs.laboratory.drum_commands.push_words.Given as goal

abbrev pub invariant-loop-place : goal.invariant-loop-place
invariant-loop-place g l = l.text.items ≡ l.fn.text.items ++ lines_text (line_by l.disassembled) l.machine.state l.span.first l.place

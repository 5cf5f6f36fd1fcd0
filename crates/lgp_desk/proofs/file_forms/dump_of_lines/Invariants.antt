use Rattle.std.proofs.Common.{◌≡◌, ◌++◌, length}
use Rattle.std.specs.Str.Lines.{lines}
use Rattle.lgp_desk.specs.FileForms.{dump_lines}
use Rattle.lgp_desk.proofs.file_forms.dump_of_lines.Given as goal

abbrev pub invariant-loop-rest : goal.invariant-loop-rest
invariant-loop-rest g l = l.dump.items ++ dump_lines (lines l.rest) ≡ dump_lines (lines l.text)

abbrev pub decreases-loop-rest : goal.decreases-loop-rest
decreases-loop-rest g l = length l.rest

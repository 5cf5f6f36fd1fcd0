use Rattle.std.proofs.Common.{◌≡◌, codes, length}
use Rattle.std.specs.List.{list_any}
use Rattle.std.specs.Str.{bytes_eq}
use Rattle.std.specs.Str.Lines.{lines}
use Rattle.lgp_desk.proofs.file_forms.has_point.Given as goal

abbrev pub invariant-loop-rest : goal.invariant-loop-rest
invariant-loop-rest l = list_any (λ line. bytes_eq line (codes ".")) (lines l.rest) ≡ list_any (λ line. bytes_eq line (codes ".")) (lines l.source)

abbrev pub decreases-loop-rest : goal.decreases-loop-rest
decreases-loop-rest l = length l.rest

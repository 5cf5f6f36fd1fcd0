use Rattle.std.proofs.Common.{◌∷◌, ◌++◌, [], codes, length}
use Rattle.std.specs.Str.Lines.{lines}
use Rattle.lgp_desk.specs.Desk.{all_answered}
use Rattle.lgp_desk.proofs.SourceLemmas.{IsLeft}
use Rattle.lgp_desk.proofs.desk.Desk.answer_source.Given as goal

abbrev pub invariant-loop-rest : goal.invariant-loop-rest
invariant-loop-rest g l = IsLeft l.note l.text.items l.self (lines l.rest) (all_answered l.note l.fn.self (codes "source" ∷ (lines l.source ++ codes "." ∷ [])))

abbrev pub decreases-loop-rest : goal.decreases-loop-rest
decreases-loop-rest g l = length l.rest

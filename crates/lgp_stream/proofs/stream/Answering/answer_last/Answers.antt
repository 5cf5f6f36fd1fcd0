use Rattle.std.proofs.Common.{◌≡◌, ◌∙◌, ◌++◌, ◌∷◌, [], List, ℕ, ap, false, true}
use Rattle.std.specs.Str.Lines.{lines}
use Rattle.std.proofs.lemmas.List.{append-nil}
use Rattle.lgp_stream.specs.KeptLine.{kept_of}
use Rattle.lgp_stream.specs.OpenLineInside.{whole}
use Rattle.lgp_stream.proofs.LineLemmas.{whole-open_of}
use Rattle.lgp_stream.proofs.ReadingLemmas.{lines-taken}
use Rattle.lgp_stream.proofs.stream.Answering.answer_last.Goals as goal

pub returns-then-is_unbegun-clause-answered : goal.returns-then-is_unbegun-clause-answered
returns-then-is_unbegun-clause-answered g c = λ s w₀ complete piece answered free at.
    let none : complete ++ lines piece ≡ complete = ap (λ (last : List (List ℕ)). complete ++ last) (lines-taken c.args.line piece true free at (cc)) ∙ append-nil complete in
    rw none answered

pub returns-clause-answered : goal.returns-clause-answered
returns-clause-answered g c = λ s w₀ complete piece answered free at.
    let one : lines piece ≡ piece ∷ [] = lines-taken c.args.line piece false free at (cc) in
    let kept : c.last.result ≡ kept_of piece = c.last.ensures ∙ (ap whole at ∙ whole-open_of piece) in
    rw one (c.answer.ensures.answered s w₀ complete piece answered kept)

pub returns-clause-stopped : goal.returns-clause-stopped
returns-clause-stopped g c = λ s w₀ complete piece answered free at.
    let one : lines piece ≡ piece ∷ [] = lines-taken c.args.line piece false free at (cc) in
    let kept : c.last.result ≡ kept_of piece = c.last.ensures ∙ (ap whole at ∙ whole-open_of piece) in
    rw one (c.answer.ensures.stopped s w₀ complete piece answered kept)

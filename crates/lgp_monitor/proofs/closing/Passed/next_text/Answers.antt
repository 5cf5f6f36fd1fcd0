use Rattle.std.proofs.Common.{ap, refl, ◌∙◌, ◌≡◌, ℕ, zero, suc, List, [], ◌∷◌, drop}
use Rattle.std.proofs.lemmas.List.{drop-drop}
use Rattle.lgp_source.specs.Source.{SourceLine, lines_of}
use Rattle.lgp_monitor.specs.ClosingInside.{PassedLines}
use Rattle.lgp_monitor.specs.Closing.{text_at}
use Rattle.lgp_monitor.proofs.closing.Passed.next_text.Goals as goal

-- the first of what is left after a given number of lines
text-after : (n : ℕ) (lines : List SourceLine) → text_at (drop n lines) 0 ≡ text_at lines n
text-after zero lines = refl
text-after (suc n) [] = refl
text-after (suc n) (line ∷ lines) = text-after n _

pub invariant_of-self : goal.invariant_of-self
invariant_of-self c =
    c.next_text-text.ensures.rest ∙ ap (drop 1) c.self.invariant ∙ drop-drop 1 c.self.inside.count (lines_of c.self.inside.source.now)

pub returns-clause-text : goal.returns-clause-text
returns-clause-text c =
    c.next_text-text.ensures.text
    ∙ ap (λ (lines : List SourceLine). text_at lines 0) c.self.invariant
    ∙ text-after c.self.inside.count (lines_of c.self.inside.source.now)
    ∙ ap (λ (passed : PassedLines). text_at passed.all passed.count) c.self.view_is

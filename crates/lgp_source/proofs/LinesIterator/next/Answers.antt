use Rattle.std.proofs.Common.{◌+◌, ap, sym, ◌∙◌}
use Rattle.lgp_source.specs.Source.{line_of}
use Rattle.lgp_source.specs.Seen.{line_seen}
use Rattle.lgp_source.proofs.Steps.{goes_on, numbered_none, numbered_step}
use Rattle.lgp_source.proofs.LinesIterator.next.Goals as goal

pub returns-in_default-clause-steps : goal.returns-in_default-clause-steps
returns-in_default-clause-steps c =
    (sym c.self.view_is ∙ numbered_none _ _ c.in_default.ensures.steps.0, numbered_none _ _ c.in_default.ensures.steps.1)

pub returns-clause-steps : goal.returns-clause-steps
returns-clause-steps c =
    let number = c.self.inside.passed + 1 in
    sym c.self.view_is
    ∙ numbered_step _ _ _ _ _ c.in-Some.ensures.steps (c.line_of.ensures ∙ ap (line_of number) c.text_of.ensures)

pub returns-clause-goes : goal.returns-clause-goes
returns-clause-goes c =
    let number = c.self.inside.passed + 1 in
    goes_on line_seen _ (λ _. tt) _ _ _
    (sym c.self.view_is
    ∙ numbered_step _ _ _ _ _ c.in-Some.ensures.steps (c.line_of.ensures ∙ ap (line_of number) c.text_of.ensures))

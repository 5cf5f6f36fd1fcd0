use Rattle.std.proofs.Common.{sym, ◌∙◌}
use Rattle.lgp_source.specs.Seen.{token_seen}
use Rattle.lgp_source.proofs.Steps.{goes_on}
use Rattle.lgp_source.proofs.Places.{no_token, next_token}
use Rattle.lgp_source.proofs.cutting.TokensIterator.next.Goals as goal

pub returns-in_default-clause-steps : goal.returns-in_default-clause-steps
returns-in_default-clause-steps c =
    let none = sym c.self.view_is ∙ no_token c.self.inside.body.now c.self.inside.place (sym c.visible_place.ensures ∙ c.in_default.is) in
    (none, none)

pub returns-clause-steps : goal.returns-clause-steps
returns-clause-steps c =
    let step = next_token _ _ c.in-Some.gap c.run.result c.self.invariant (sym c.visible_place.ensures ∙ c.in-Some.is) c.run.ensures.value in
    sym c.self.view_is ∙ step.1

pub returns-clause-goes : goal.returns-clause-goes
returns-clause-goes c =
    let step = next_token _ _ c.in-Some.gap c.run.result c.self.invariant (sym c.visible_place.ensures ∙ c.in-Some.is) c.run.ensures.value in
    goes_on token_seen _ (λ _. tt) _ _ _ (sym c.self.view_is ∙ step.1)

use Rattle.std.proofs.Common.{◌≡◌, ◌∙◌, rules, ℕ, ap, replicate, vec_len}
use Rattle.lgp_optimum.proofs.TurnsLemmas.{first_blank, no_turns_as}
use Rattle.lgp_optimum.proofs.turns.Turns.clear.Goals as goal

pub returns : goal.returns
returns g c =
    let words : vec_len c.self.inside.rows ≡ 4096 = search rules in
    no_turns_as _ _ (c.fill.ensures.items (λ y same. search rules) ∙ ap (λ (n : ℕ). replicate {A = ℕ} n 0) words)
    (c.truncate.ensures.items ∙ first_blank _ _ c.self.invariant)

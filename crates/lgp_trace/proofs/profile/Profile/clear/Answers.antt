use Rattle.std.proofs.Common.{rules, ◌∙◌, ℕ, ap, replicate}
use Rattle.lgp_trace.proofs.Sums.{nothing_profiled}
use Rattle.lgp_trace.proofs.profile.Profile.clear.Goals as goal

pub returns : goal.returns
returns g c =
    let zeros = c.fill.ensures.items (λ y same. search rules) ∙ ap (λ (n : ℕ). replicate n 0) c.self.invariant.0 in
    nothing_profiled _ _ c.only_act-self-inside.ensures zeros

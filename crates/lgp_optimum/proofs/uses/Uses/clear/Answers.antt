use Rattle.std.proofs.Common.{rules, ◌∙◌, ℕ, ap, replicate}
use Rattle.lgp_optimum.specs.OptimumKept.{no_use}
use Rattle.lgp_optimum.specs.UsesInside.{no_uses}
use Rattle.lgp_optimum.proofs.uses.Uses.clear.Goals as goal

pub returns : goal.returns
unfolding no_uses
returns g c = c.fill.ensures.items (λ y same. search rules) ∙ ap (λ (n : ℕ). replicate n no_use) c.self.invariant

use Rattle.std.proofs.Common.{refl}
use Rattle.lgp_optimum.proofs.OptimumLemmas.{few_counts, no_orders}
use Rattle.lgp_optimum.proofs.optimum.Optimum.clear.Goals as goal

pub invariant_of-self : goal.invariant_of-self
invariant_of-self g c = (λ at. few_counts _ 0 at c.clear.ensures, tt)

pub returns : goal.returns
returns g c = λ s. no_orders _ s refl c.clear.ensures refl c.clear-2.ensures

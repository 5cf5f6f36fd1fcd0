use Rattle.std.proofs.Common.{refl}
use Rattle.lgp_optimum.proofs.OptimumLemmas.{few_counts, no_orders}
use Rattle.lgp_optimum.proofs.optimum.Optimum.new.Goals as goal

pub invariant_of-result : goal.invariant_of-result
invariant_of-result g c = (λ at. few_counts _ 0 at c.in_ok-new.ensures, tt)

pub returns : goal.returns
returns g c = λ s. no_orders _ s refl c.in_ok-new.ensures refl c.in_ok-new-2.ensures

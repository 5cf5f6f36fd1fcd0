use Rattle.std.proofs.Common.{arith}
use Rattle.lgp_past.proofs.PastLemmas.{kept_few}
use Rattle.lgp_past.proofs.past.Past.all_orders.Goals as goal

pub overflow_add-result : goal.overflow_add-result
overflow_add-result g c = let few = kept_few _ _ _ _ _ c.self.invariant.0 in omega (arith, few)

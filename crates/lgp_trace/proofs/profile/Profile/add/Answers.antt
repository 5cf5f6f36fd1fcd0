use Rattle.std.proofs.Common.{arith}
use Rattle.std.proofs.lemmas.Grind.{common_steps}
use Rattle.lgp_trace.proofs.Sums.{sums}
use Rattle.lgp_trace.proofs.profile.Profile.add.Goals as goal

pub overflow_add-index_mut : goal.overflow_add-index_mut
overflow_add-index_mut g c = grind (arith, common_steps, sums)

pub invariant_of-self : goal.invariant_of-self
invariant_of-self g c = grind (arith, common_steps, sums)

pub returns-in-Some : goal.returns-in-Some
returns-in-Some g c = grind (arith, common_steps, sums)

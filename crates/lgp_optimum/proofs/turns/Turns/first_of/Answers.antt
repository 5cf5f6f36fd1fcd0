use Rattle.std.proofs.Common.{arith}
use Rattle.std.proofs.lemmas.Grind.{common_steps, elements}
use Rattle.lgp_optimum.proofs.turns.Turns.first_of.Goals as goal

pub returns-clause-first : goal.returns-clause-first
returns-clause-first g c = grind (arith, common_steps)

pub overflow_mul-result : goal.overflow_mul-result
overflow_mul-result g c = grind (arith, elements)

pub returns-clause-within : goal.returns-clause-within
returns-clause-within g c = grind (arith, elements)

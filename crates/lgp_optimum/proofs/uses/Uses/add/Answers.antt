use Rattle.std.proofs.Common.{arith}
use Rattle.std.proofs.lemmas.Grind.{common_steps}
use Rattle.lgp_trace.proofs.Sums.{sums}
use Rattle.lgp_optimum.proofs.uses.Uses.add.Goals as goal

pub returns-clause-uses : goal.returns-clause-uses
returns-clause-uses g c = grind (arith, common_steps, sums)

use Rattle.std.proofs.Common.{arith}
use Rattle.std.proofs.lemmas.Grind.{common_steps}
use Rattle.lgp_optimum.proofs.lines.push_gains.Goals as goal

pub loop-gain-preserved : goal.loop-gain-preserved
loop-gain-preserved g c = grind (arith, common_steps)

pub returns : goal.returns
returns g c = grind (arith, common_steps)

use Rattle.std.proofs.Common.{arith}
use Rattle.std.proofs.lemmas.Grind.{common_steps}
use Rattle.lgp_exchange.proofs.carriage.Carriage.push_row.Goals as goal

pub loop-struck-preserved : goal.loop-struck-preserved
loop-struck-preserved g c = grind (arith, common_steps)

pub returns : goal.returns
returns g c = grind (arith, common_steps)

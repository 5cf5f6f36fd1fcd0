use Rattle.std.proofs.Common.{arith}
use Rattle.std.proofs.lemmas.Grind.{common_steps}
use Rattle.lgp_monitor.proofs.question.push_live_names.Goals as goal

pub loop-named-preserved : goal.loop-named-preserved
loop-named-preserved g c = grind (arith, common_steps)

pub returns : goal.returns
returns g c = grind (arith, common_steps)

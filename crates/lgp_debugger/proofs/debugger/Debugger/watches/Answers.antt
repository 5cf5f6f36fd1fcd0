use Rattle.std.proofs.Common.{arith}
use Rattle.std.proofs.lemmas.Grind.{common_steps}
use Rattle.lgp_debugger.proofs.debugger.Debugger.watches.Goals as goal

pub push-requires : goal.push-requires
push-requires g c = grind (arith, common_steps)

pub loop-rule-preserved : goal.loop-rule-preserved
loop-rule-preserved g c = grind (arith, common_steps)

pub returns : goal.returns
returns g c = grind (arith, common_steps)

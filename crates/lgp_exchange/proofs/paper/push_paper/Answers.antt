use Rattle.std.proofs.Common.{arith}
use Rattle.std.proofs.lemmas.Grind.{common_steps}
use Rattle.lgp_exchange.specs.Paper.{paper_from}
use Rattle.lgp_exchange.proofs.Papers.{paper_more}
use Rattle.lgp_exchange.proofs.paper.push_paper.Goals as goal

pub loop-code-preserved : goal.loop-code-preserved
loop-code-preserved g c = grind (arith, paper_more)

pub returns : goal.returns
unfolding paper_from
returns g c = grind (arith, common_steps)

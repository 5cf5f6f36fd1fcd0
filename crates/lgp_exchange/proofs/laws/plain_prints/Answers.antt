use Rattle.lgp_exchange.proofs.PlainPapers.{plain_paper}
use Rattle.lgp_exchange.proofs.laws.plain_prints.Goals as goal

pub returns : goal.returns
returns c = plain_paper

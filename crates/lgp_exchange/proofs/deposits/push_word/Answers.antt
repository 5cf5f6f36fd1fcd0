use Rattle.std.proofs.Common.{rules}
use Rattle.lgp_exchange.proofs.deposits.push_word.Goals as goal

pub returns-clause-text : goal.returns-clause-text
returns-clause-text g c = search rules

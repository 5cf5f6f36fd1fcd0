use Rattle.std.proofs.Common.{rules}
use Rattle.lgp_exchange.proofs.Archives.{sign-small}
use Rattle.lgp_exchange.proofs.archive_text.sign_byte.Goals as goal

pub overflow_cast-result : goal.overflow_cast-result
overflow_cast-result c = search (rules, sign-small)

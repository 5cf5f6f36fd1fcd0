use Rattle.lgp_exchange.proofs.Papers.{upper_sign_read}
use Rattle.lgp_exchange.proofs.laws.upper_signs_are_read.Goals as goal

pub returns : goal.returns
returns c = upper_sign_read

use Rattle.std.proofs.Common.{rules}
use Rattle.lgp_flexo.proofs.code.enter.Goals as goal

pub returns-else-six_bit : goal.returns-else-six_bit
returns-else-six_bit c = search rules

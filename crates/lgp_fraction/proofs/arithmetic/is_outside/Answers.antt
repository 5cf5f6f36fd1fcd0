use Rattle.std.proofs.Common.{rules}
use Rattle.lgp_fraction.proofs.arithmetic.is_outside.Goals as goal

pub returns-else-number : goal.returns-else-number
returns-else-number c = search rules

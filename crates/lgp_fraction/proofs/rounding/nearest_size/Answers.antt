use Rattle.std.proofs.Common.{rules}
use Rattle.lgp_fraction.proofs.rounding.nearest_size.Goals as goal

pub returns-clause-value : goal.returns-clause-value
returns-clause-value c = search rules

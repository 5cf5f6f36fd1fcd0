use Rattle.std.proofs.Common.{rules}
use mathlib.Core.Bool.{xor}
use Rattle.lgp_fraction.specs.Rounding.{nearest}
use Rattle.lgp_fraction.proofs.rounding.nearest.Goals as goal

pub returns-clause-value : goal.returns-clause-value
unfolding nearest xor
returns-clause-value c =
    search rules

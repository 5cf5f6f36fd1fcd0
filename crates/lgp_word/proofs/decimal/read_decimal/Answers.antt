use Rattle.lgp_word.proofs.DecimalLemmas.{at_most_digits}
use Rattle.lgp_word.proofs.decimal.read_decimal.Goals as goal

pub returns-then-is_decimal-clause-below : goal.returns-then-is_decimal-clause-below
returns-then-is_decimal-clause-below c =
    at_most_digits _ _ _ c.decimal_of.ensures.size (c.is_decimal.ensures.short c.if-is_decimal.true)

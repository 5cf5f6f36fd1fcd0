use Rattle.std.proofs.Common.{rules}
use Rattle.lgp_fraction.proofs.DecimalLemmas.{decimal_fraction-decimal_text}
use Rattle.lgp_fraction.proofs.fraction.Fraction.to_decimal.Goals as goal

pub returns-clause-reads_back : goal.returns-clause-reads_back
returns-clause-reads_back c =
    search (rules, decimal_fraction-decimal_text)

use Rattle.std.proofs.Common.{◌≡◌, ◌<◌, ◌^◌, take, fold}
use Rattle.lgp_word.specs.Decimal.{with_digit}
use Rattle.lgp_word.proofs.decimal.decimal_of.Given as goal

abbrev pub invariant-loop-digit : goal.invariant-loop-digit
invariant-loop-digit l = record {
  value : l.number ≡ fold with_digit 0 (take l.digit-index l.digits);
  small : l.number < 10 ^ l.digit-index;
}

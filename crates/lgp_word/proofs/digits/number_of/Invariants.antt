use Rattle.std.proofs.Common.{◌≡◌, ◌<◌, ◌^◌, drop}
use Rattle.lgp_word.specs.Digits.{number_of}
use Rattle.lgp_word.proofs.digits.number_of.Given as goal

abbrev pub invariant-loop-byte : goal.invariant-loop-byte
invariant-loop-byte l = record {
  read : number_of l.number (drop l.byte-index l.digits) ≡ number_of 0 l.digits;
  small : l.number < 16 ^ l.byte-index;
}

use Rattle.std.proofs.Common.{◌≡◌, take}
use Rattle.lgp_exchange.proofs.code_bytes.collect_codes.Given as goal

abbrev pub invariant-loop-byte : goal.invariant-loop-byte
invariant-loop-byte g l = l.codes.items ≡ take l.byte-index l.bytes

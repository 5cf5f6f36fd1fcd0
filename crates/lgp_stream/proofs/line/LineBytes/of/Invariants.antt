use Rattle.std.proofs.Common.{◌≡◌, take}
use Rattle.lgp_stream.specs.KeptLine.{kept_of}
use Rattle.lgp_stream.proofs.line.LineBytes.of.Given as goal

abbrev pub invariant-loop-byte : goal.invariant-loop-byte
invariant-loop-byte l = l.bytes ≡ kept_of (take l.byte-index l.text)

use Rattle.std.proofs.Common.{◌≡◌, ◌++◌, drop, map}
use Rattle.lgp_assembler.specs.Marks.{shown_byte}
use Rattle.lgp_assembler.proofs.marks.push_shown.Given as goal

abbrev pub invariant-loop-byte : goal.invariant-loop-byte
invariant-loop-byte g l = l.text.items ++ map shown_byte (drop l.byte-index l.bytes) ≡ l.fn.text.items ++ map shown_byte l.bytes

use Rattle.std.proofs.Common.{◌≡◌, ◌++◌, drop, map}
use Rattle.lgp_assembler.specs.Marks.{byte_below}
use Rattle.lgp_assembler.proofs.marks.push_below.Given as goal

abbrev pub invariant-loop-byte : goal.invariant-loop-byte
invariant-loop-byte g l =
    l.text.items ++ map (byte_below l.marked) (drop l.byte-index l.bytes) ≡ l.fn.text.items ++ map (byte_below l.marked) l.bytes

use Rattle.std.proofs.Common.{Option, List, ℕ, Some, rules}
use Rattle.lgp_stream.specs.LineReading.{left_of}
use Rattle.lgp_stream.proofs.ReadingLemmas.{byte-is, taken-more}
use Rattle.lgp_stream.proofs.line_reader.ReadBytes.take_line.Goals as goal

pub bytes-preserved : goal.bytes-preserved
bytes-preserved g c =
    let before : Option (List ℕ) = left_of c.args.self.now (g.R.Feed.remaining c.args.reader.now) in
    let now : Option (List ℕ) = left_of c.bytes.self (g.R.Feed.remaining c.bytes.reader) in
    let next : Option (List ℕ) = left_of c.next_byte.new.self (g.R.Feed.remaining c.next_byte.new.reader) in
    record {
      taken = taken-more before now next c.bytes.line c.push.new.self c.in-Some.byte c.bytes.invariant.taken
          (byte-is now next c.in_ok-byte.field-0 (Some c.in-Some.byte) c.in-Some.is c.in_ok-byte.ensures.next) c.if-byte-eq10.false c.push.ensures;
      less = search rules;
    }

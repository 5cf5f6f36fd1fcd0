use Rattle.std.proofs.Common.{◌+◌, ◌*◌, ◌≤◌, false, length}
use Rattle.lgp_stream.specs.LineReading.{left_of}
use Rattle.lgp_stream.specs.ReadingInside.{HasTaken}
use Rattle.lgp_stream.proofs.line_reader.ReadBytes.take_line.Given as goal

abbrev pub invariant-bytes : goal.invariant-bytes
invariant-bytes g l = record {
  taken : HasTaken (left_of l.fn.self (g.R.Feed.remaining l.fn.reader)) (left_of l.self (g.R.Feed.remaining l.reader)) l.line false;
  less : g.R.Feed.reads l.reader * 4097 + length l.self ≤ g.R.Feed.reads l.fn.reader * 4097 + length l.fn.self;
}

abbrev pub decreases-bytes : goal.decreases-bytes
decreases-bytes g l = g.R.Feed.reads l.reader * 4097 + length l.self

use Rattle.std.proofs.Common.{◌≡◌, ◌+◌, ◌*◌, [], length}
use Rattle.lgp_stream.specs.LineReading.{left_of}
use Rattle.lgp_stream.specs.OpenLineInside.{open_of}
use Rattle.lgp_stream.proofs.StreamLemmas.{IsAnswering}
use Rattle.lgp_stream.proofs.stream.Answering.answer_complete.Given as goal

abbrev pub invariant-lines : goal.invariant-lines
invariant-lines g l = record {
  begun : l.line ≡ open_of [];
  answering : IsAnswering g.L.Answers.language l.fn.self.answers (g.R.Feed.remaining l.fn.reader) (left_of l.lines (g.R.Feed.remaining l.reader))
      (g.W.Sink.contents l.fn.writer) (g.W.Sink.contents l.writer) l.self.answers l.self.tally;
}

abbrev pub decreases-lines : goal.decreases-lines
decreases-lines g l = g.R.Feed.reads l.reader * 4097 + length l.lines

use Rattle.std.proofs.Common.{◌≡◌, List, true, ℕ}
use Rattle.lgp_desk.specs.Files.{ByCalls}
use Rattle.lgp_desk.specs.ServedInside.{AreAllOrLeft, IsUnderWay, needs_no_file}
use Rattle.lgp_stream.specs.LineReading.{left_of}
use Rattle.lgp_desk.specs.Desk.{wish_at}
use Rattle.lgp_desk.proofs.answering.hold.Given as goal

abbrev pub invariant-loop-step : goal.invariant-loop-step
invariant-loop-step g l =
    (mid : List (List ℕ)) × ByCalls g.F.Files.answer l.fn.files l.files (λ calls. IsUnderWay calls l.fn.desk l.names mid (g.R.Feed.remaining l.fn.reader) (left_of l.lines.unread (g.R.Feed.remaining l.reader)) l.desk (g.W.Sink.contents l.fn.writer) (g.W.Sink.contents l.writer))
    × AreAllOrLeft mid l.desk × (needs_no_file (wish_at l.desk) ≡ true)

use Rattle.std.proofs.Common.{◌≡◌, List, [], ℕ, sym, subst, ◌∙◌, rules}
use Rattle.std.specs.Io.KnownBytes.{Consumes}
use Rattle.lgp_stream.specs.LineReading.{left_of}
use Rattle.lgp_stream.proofs.ReadingLemmas.{byte-next}
use Rattle.lgp_stream.proofs.line_reader.ReadBytes.next_byte.Goals as goal

pub returns-clause-next : goal.returns-clause-next
returns-clause-next g c =
    let none = c.next_read.ensures.none (search rules) in
    let same : c.next_read.new.self ≡ c.args.self.now = none.1 ∙ sym none.0 in
    byte-next c.args.self.now c.refill.new.self c.next_read-2.new.self (g.R.Feed.remaining c.args.reader.now) (g.R.Feed.remaining c.refill.new.reader) c.next_read-2.result
    (subst (λ (unread : List ℕ). Consumes (left_of unread (g.R.Feed.remaining c.args.reader.now)) (left_of c.refill.new.self (g.R.Feed.remaining c.refill.new.reader)) []) same c.in_ok-refill.ensures.kept)
    c.in_ok-refill.ensures.end c.next_read-2.ensures.byte c.next_read-2.ensures.none

use Rattle.std.proofs.Common.{◌≡◌, ap, refl, sym}
use Rattle.lgp_stream.specs.LineReading.{Reading}
use Rattle.lgp_stream.specs.OpenLineInside.{Open}
use Rattle.lgp_stream.proofs.ReadingLemmas.{line-feed, line-last, line-none}
use Rattle.lgp_stream.proofs.line_reader.LineReader.next_line.Goals as goal

pub returns-then-branch-clause-line : goal.returns-then-branch-clause-line
returns-then-branch-clause-line g c = λ is.
    let same : c.args.self.now.unread ≡ c.self.inside.bytes = sym (ap (λ (reading : Reading). reading.unread) c.self.view_is) in
    rw same (line-feed _ _ c.take_line.new.line _ (rw c.if-branch.true at c.in_ok-take_line.ensures.taken) refl)

pub returns-then-is_unbegun-clause-end : goal.returns-then-is_unbegun-clause-end
returns-then-is_unbegun-clause-end g c = λ is.
    let same : c.args.self.now.unread ≡ c.self.inside.bytes = sym (ap (λ (reading : Reading). reading.unread) c.self.view_is) in
    rw same (line-none _ _ c.take_line.new.line (rw c.if-branch.false at c.in_ok-take_line.ensures.taken) (c.in_ok-take_line.ensures.end c.if-branch.false) (cc))

pub returns-clause-line : goal.returns-clause-line
returns-clause-line g c = λ is.
    let same : c.args.self.now.unread ≡ c.self.inside.bytes = sym (ap (λ (reading : Reading). reading.unread) c.self.view_is) in
    rw same (line-last _ _ c.take_line.new.line _ (rw c.if-branch.false at c.in_ok-take_line.ensures.taken) (c.in_ok-take_line.ensures.end c.if-branch.false) (cc) (ap (λ (line : Open). line.kept) c.release.ensures))

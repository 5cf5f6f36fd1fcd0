use Rattle.std.proofs.Common.{◌≡◌, ◌∙◌, Err, ap, refl, rules, true}
use Rattle.std.specs.Str.Lines.{strip_carriage_return}
use Rattle.lgp_stream.specs.KeptLine.{kept_of}
use Rattle.lgp_stream.specs.LineReading.{left_of}
use Rattle.lgp_stream.specs.OpenLineInside.{Open}
use Rattle.lgp_stream.specs.ReadingInside.{HasTaken}
use Rattle.lgp_stream.proofs.LineLemmas.{kept-open_of}
use Rattle.lgp_stream.proofs.StreamLemmas.{answering-more, answering-read, answering-stopped, left-end}
use Rattle.lgp_stream.proofs.stream.Answering.answer_complete.Goals as goal

pub returns-in_default-clause-stands : goal.returns-in_default-clause-stands
returns-in_default-clause-stands g c =
    answering-read g.L.Answers.language c.args.self.now.answers _ _ _ _ _ _ _ c.lines.invariant.answering (c.in_default.ensures.broken refl)

pub returns-then-not-is_complete-clause-read : goal.returns-then-not-is_complete-clause-read
returns-then-not-is_complete-clause-read g c = left-end c.take_line.new.self _ (c.in-Ok.ensures.end c.if-not-is_complete.true)

pub returns-in_err-answer-clause-stands : goal.returns-in_err-answer-clause-stands
returns-in_err-answer-clause-stands g c =
    let answering = c.lines.invariant.answering in
    let taken : HasTaken (left_of c.lines.lines (g.R.Feed.remaining c.lines.reader)) (left_of c.take_line.new.self (g.R.Feed.remaining c.take_line.new.reader)) c.take_line.new.line true =
    rw c.if-not-is_complete.false at c.in-Ok.ensures.taken in
    let kept : c.bytes.result.now ≡ kept_of (strip_carriage_return taken.taken) = c.bytes.ensures ∙ (ap (λ (o : Open). o.kept) taken.line_at ∙ kept-open_of taken.taken) in
    let same : c.from_residual.result ≡ Err c.in_err-answer.field-0.0 = search rules in
    rw same (answering-stopped g.L.Answers.language c.args.self.now.answers c.in_err-answer.field-0.0 _ _ _ _ _ _ _ _ _ _ answering taken
    (c.in_err-answer.ensures.stopped c.args.self.now.answers _ answering.complete (strip_carriage_return taken.taken) answering.answered kept))

pub lines-preserved : goal.lines-preserved
lines-preserved g c =
    let answering = c.lines.invariant.answering in
    let taken : HasTaken (left_of c.lines.lines (g.R.Feed.remaining c.lines.reader)) (left_of c.take_line.new.self (g.R.Feed.remaining c.take_line.new.reader)) c.take_line.new.line true =
    rw c.if-not-is_complete.false at c.in-Ok.ensures.taken in
    let kept : c.bytes.result.now ≡ kept_of (strip_carriage_return taken.taken) = c.bytes.ensures ∙ (ap (λ (o : Open). o.kept) taken.line_at ∙ kept-open_of taken.taken) in
    record {
      begun = c.restart.ensures;
      answering = answering-more g.L.Answers.language c.args.self.now.answers _ _ _ _ _ _ _ _ _ _ _ answering taken
          (c.in_ok-answer.ensures.answered c.args.self.now.answers _ answering.complete (strip_carriage_return taken.taken) answering.answered kept);
    }

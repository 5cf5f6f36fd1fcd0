use Rattle.std.proofs.Common.{◌≡◌, ◌++◌, Err, rules}
use Rattle.std.specs.Str.Lines.{lines}
use Rattle.lgp_stream.proofs.StreamLemmas.{all-stand, end-stands, text-counted, text-sent}
use Rattle.lgp_stream.proofs.stream.run_text.Goals as goal

pub returns-in_err-answer_last-clause-stands : goal.returns-in_err-answer_last-clause-stands
returns-in_err-answer_last-clause-stands g c =
    let text = c.in_ok-answer_complete.ensures.answered in
    let same : c.from_residual-in_err-answer_last.result ≡ Err c.in_err-answer_last.field-0.0 = search rules in
    rw same (all-stand g.L.Answers.language c.args.answers c.in_err-answer_last.field-0.0 _ _ _ _ (text.complete ++ lines text.piece) text.lines_are
    (c.in_err-answer_last.ensures.stopped c.args.answers _ text.complete text.piece text.answered text.is_line text.line_at))

pub returns-in_err-close-clause-stands : goal.returns-in_err-close-clause-stands
returns-in_err-close-clause-stands g c =
    let text = c.in_ok-answer_complete.ensures.answered in
    let answered = c.in_ok-answer_last.ensures.answered c.args.answers _ text.complete text.piece text.answered text.is_line text.line_at in
    let same : c.from_residual-in_err-close.result ≡ Err c.in_err-close.field-0.0 = search rules in
    rw same (end-stands g.L.Answers.language c.args.answers c.in_err-close.field-0.0 _ _ _ _ (text.complete ++ lines text.piece) text.lines_are
    (c.in_err-close.ensures.stopped c.args.answers _ (text.complete ++ lines text.piece) answered))

pub returns-clause-text : goal.returns-clause-text
returns-clause-text g c =
    let text = c.in_ok-answer_complete.ensures.answered in
    let answered = c.in_ok-answer_last.ensures.answered c.args.answers _ text.complete text.piece text.answered text.is_line text.line_at in
    text-sent g.L.Answers.language c.args.answers _ _ _ (text.complete ++ lines text.piece) _ text.lines_are
    (c.in_ok-close.ensures.written c.args.answers _ (text.complete ++ lines text.piece) answered)

pub returns-clause-faults : goal.returns-clause-faults
returns-clause-faults g c =
    let text = c.in_ok-answer_complete.ensures.answered in
    let answered = c.in_ok-answer_last.ensures.answered c.args.answers _ text.complete text.piece text.answered text.is_line text.line_at in
    text-counted g.L.Answers.language c.args.answers _ _ _ (text.complete ++ lines text.piece) _ text.lines_are
    (c.in_ok-close.ensures.written c.args.answers _ (text.complete ++ lines text.piece) answered)

use Rattle.std.proofs.Common.{◌≡◌, ◌∙◌, ◌++◌, List, ℕ, false, true, is_some, ap, refl, sym}
use Rattle.std.proofs.lemmas.List.{append-nil}
use Rattle.std.specs.Option.{option_map_or}
use Rattle.lgp_stream.specs.Transcript.{Recorded}
use Rattle.lgp_script.specs.LabState.{LabState}
use Rattle.lgp_script.specs.SourceText.{SourceText}
use Rattle.lgp_monitor.proofs.ClosingLemmas.{after_line, closing_none, closing_point, ended_faulty, none_faulty}
use Rattle.lgp_monitor.proofs.monitor.close_lines.Goals as goal

pub returns-then-has_open_source-clause-reply : goal.returns-then-has_open_source-clause-reply
returns-then-has_open_source-clause-reply g c =
    let is_open : is_some c.args.recorder.now.state.opened ≡ true =
    sym (ap (λ (lab : LabState). is_some lab.opened) c.answers.ensures) ∙ (sym c.has_open_source.ensures ∙ c.if-has_open_source.true) in
    c.in_ok-answer_line.ensures.reply ∙ ap (λ (t : List ℕ). c.args.reply.now.items ++ t) (closing_point c.args.recorder.now _ refl is_open)

pub returns-then-has_open_source-clause-refused : goal.returns-then-has_open_source-clause-refused
returns-then-has_open_source-clause-refused g c =
    let is_open : is_some c.args.recorder.now.state.opened ≡ true =
    sym (ap (λ (lab : LabState). is_some lab.opened) c.answers.ensures) ∙ (sym c.has_open_source.ensures ∙ c.if-has_open_source.true) in
    c.was_faulty.ensures
    ∙ ended_faulty c.args.recorder.now.state _ _ is_open
    (ap (λ (lab : LabState). lab.faulty) (c.answers-then-has_open_source-2.ensures ∙ (ap (λ (r : Recorded LabState). r.state) c.in_ok-answer_line.ensures.after ∙ after_line c.args.recorder.now _)))
    (c.has_too_long_source-was_too_long.ensures ∙ ap (λ (lab : LabState). option_map_or (λ (source : SourceText). source.too_long) lab.opened false) c.answers-then-has_open_source.ensures)

pub returns-clause-reply : goal.returns-clause-reply
returns-clause-reply g c =
    let shut : is_some c.args.recorder.now.state.opened ≡ false =
    sym (ap (λ (lab : LabState). is_some lab.opened) c.answers.ensures) ∙ (sym c.has_open_source.ensures ∙ c.if-has_open_source.false) in
    sym (append-nil c.args.reply.now.items) ∙ ap (λ (t : List ℕ). c.args.reply.now.items ++ t) (closing_none c.args.recorder.now.state _ refl shut)

pub returns-clause-refused : goal.returns-clause-refused
returns-clause-refused g c =
    let shut : is_some c.args.recorder.now.state.opened ≡ false =
    sym (ap (λ (lab : LabState). is_some lab.opened) c.answers.ensures) ∙ (sym c.has_open_source.ensures ∙ c.if-has_open_source.false) in
    none_faulty c.args.recorder.now.state.opened shut

use Rattle.std.proofs.Common.{◌∙◌, ◌++◌, ◌∷◌, [], List, ℕ, ap, false}
use Rattle.std.specs.Option.{option_map_or}
use Rattle.lgp_stream.specs.Transcript.{Recorded, replies_text, stand_in}
use Rattle.lgp_script.specs.LabState.{LabState}
use Rattle.lgp_script.specs.Script.{script_language}
use Rattle.lgp_script.specs.SourceText.{SourceText}
use Rattle.lgp_monitor.proofs.ClosingLemmas.{after_line, closed_faulty, closing_answered}
use Rattle.lgp_monitor.proofs.monitor.close_source.Goals as goal

pub returns-clause-answer : goal.returns-clause-answer
returns-clause-answer g c = λ text kept.
    let answered = c.in_ok-answer_kept.ensures text kept in
    let before : LabState = c.args.recorder.now.state in
    record {
      reply = closing_answered before c.args.line.now _ _ _ _ _ _ c.requires.open c.requires.end
          (ap (λ (lab : LabState). lab.faulty) (c.answers-2.ensures ∙ (ap (λ (r : Recorded LabState). r.state) answered.after ∙ after_line c.args.recorder.now _)))
          (c.has_too_long_source-was_too_long.ensures ∙ ap (λ (lab : LabState). option_map_or (λ (source : SourceText). source.too_long) lab.opened false) c.answers.ensures)
          (c.deref.ensures.value ∙ (answered.reply ∙ ap (λ (t : List ℕ). t ++ replies_text script_language c.args.recorder.now (stand_in c.args.line.now ∷ [])) c.new-said.ensures.items))
          c.in_ok-push_closing.ensures;
      after = answered.after;
    }

pub returns-clause-refused : goal.returns-clause-refused
returns-clause-refused g c = λ text kept.
    let answered = c.in_ok-answer_kept.ensures text kept in
    c.was_faulty.ensures
    ∙ closed_faulty c.args.recorder.now.state c.args.line.now _ _ c.requires.open c.requires.end
    (ap (λ (lab : LabState). lab.faulty) (c.answers-3.ensures ∙ (ap (λ (r : Recorded LabState). r.state) answered.after ∙ after_line c.args.recorder.now _)))
    (c.has_too_long_source-was_too_long.ensures ∙ ap (λ (lab : LabState). option_map_or (λ (source : SourceText). source.too_long) lab.opened false) c.answers.ensures)

use Rattle.std.proofs.Common.{◌≡◌, ◌∙◌, ◌&&◌, Bool, List, ℕ, ap, not, subst}
use Rattle.lgp_stream.specs.KeptLine.{Kept, kept_of}
use Rattle.lgp_stream.specs.Transcript.{Recorded}
use Rattle.lgp_stream.specs.Language.{IsAnswered}
use Rattle.lgp_script.specs.LabState.{LabState, labels_of}
use Rattle.lgp_fields.specs.declared.records.RecordForm.{RecordForm}
use Rattle.lgp_monitor.specs.Entry.{entry_of, in_form}
use Rattle.lgp_monitor.specs.Monitor.{answer_of, answered_of, entry_at, entry_in, refused_of}
use Rattle.lgp_monitor.specs.declared.answered.Answered.{Answered}
use Rattle.lgp_monitor.specs.declared.entry.Entry.{Entry}
use Rattle.lgp_monitor.proofs.monitor.answer_outside.Goals as goal

-- what is asked by a line of which this was kept
asked : (recorded : Recorded LabState) (stands : LabState) (kept : Kept) (text : List ℕ) (form : RecordForm) (entry : Entry) → kept ≡ kept_of text → stands ≡ recorded.state
    → entry ≡ in_form form (entry_of (labels_of stands.source) stands.debugger.state.core.panel.counter kept) → entry ≡ entry_in recorded form text
unfolding entry_at
asked recorded stands kept text form entry is_kept lab_is is =
    is ∙ (ap (λ (s : LabState). in_form form (entry_of (labels_of s.source) s.debugger.state.core.panel.counter kept)) lab_is
    ∙ ap (λ (k : Kept). in_form form (entry_of (labels_of recorded.state.source) recorded.state.debugger.state.core.panel.counter k)) is_kept)

-- what an answer is by whether its line is refused, and whether what it asks for has objects
abbrev made : Bool → Bool → Answered
made refused objects = record { is_refused = refused; has_objects = not refused && objects }

pub returns-clause-answer : goal.returns-clause-answer
returns-clause-answer g c = λ text kept.
    subst (λ (e : Entry). IsAnswered c.args.reply.now.items c.perform.new.reply.items c.perform.new.recorder (answer_of c.args.recorder.now e c.args.line.now))
    (asked c.args.recorder.now _ _ text c.args.form _ kept c.answers.ensures c.entry_at-entry.ensures)
    (c.in_ok-is_refused.ensures.answer text kept)

pub returns-clause-answered : goal.returns-clause-answered
returns-clause-answered g c = λ text kept.
    let refused : Bool = refused_of c.args.recorder.now c.entry_at-entry.result c.args.line.now in
    c.of.ensures
    ∙ (ap (λ (r : Bool). made r c.has_objects-objects.result) c.in_ok-is_refused.ensures.refused
    ∙ (ap (made refused) c.has_objects-objects.ensures
    ∙ ap (λ (e : Entry). answered_of c.args.recorder.now e c.args.line.now) (asked c.args.recorder.now _ _ text c.args.form _ kept c.answers.ensures c.entry_at-entry.ensures)))

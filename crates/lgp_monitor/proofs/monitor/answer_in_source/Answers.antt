use Rattle.std.proofs.Common.{◌∙◌, ◌&&◌, Bool, ap, subst, sym}
use Rattle.lgp_stream.specs.Language.{Answer, IsAnswered}
use Rattle.lgp_stream.specs.Transcript.{Recorded}
use Rattle.lgp_script.specs.LabState.{LabState}
use Rattle.lgp_monitor.specs.Closing.{is_faulty}
use Rattle.lgp_monitor.proofs.ClosingLemmas.{not_closing}
use Rattle.lgp_monitor.proofs.monitor.answer_in_source.Goals as goal

pub returns-clause-answer : goal.returns-clause-answer
returns-clause-answer g c = λ text kept.
    subst (λ (answer : Answer (Recorded LabState)). IsAnswered c.args.reply.now.items c.answer_kept.new.reply.items c.answer_kept.new.self answer)
    (not_closing c.args.recorder.now c.args.line.now (sym c.is_source_end.ensures ∙ c.if-is_source_end.false))
    (c.in_ok-answer_kept.ensures text kept)

pub returns-clause-refused : goal.returns-clause-refused
returns-clause-refused g c = λ text kept.
    sym (ap (λ (ends : Bool). ends && is_faulty c.args.recorder.now.state.opened) (sym c.is_source_end.ensures ∙ c.if-is_source_end.false))

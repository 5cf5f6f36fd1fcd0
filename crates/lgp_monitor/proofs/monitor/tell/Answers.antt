use Rattle.std.proofs.Common.{refl}
use Rattle.std.proofs.lemmas.Result.{IfOk-weaker, on_ok_weaker}
use Rattle.lgp_monitor.proofs.PerformingLemmas.{performed_run, told_text}
use Rattle.lgp_monitor.proofs.monitor.tell.Goals as goal

pub returns-clause-performed : goal.returns-clause-performed
returns-clause-performed g c =
    IfOk-weaker c.run_told.result _ _
    (λ said is. performed_run _ c.keep_command.new.recorder _ _ _ c.args.limit c.get.result _ c.requires c.in_ok-keep_command.ensures.sayable c.in_ok-keep_command.ensures.kept c.answers_mut.ensures.value c.get.ensures.value is refl)
    c.run_told.ensures.reply

pub returns-clause-text : goal.returns-clause-text
returns-clause-text g c =
    on_ok_weaker c.run_told.result
    (λ is. told_text _ c.keep_command.new.recorder _ _ c.args.limit c.get.result _ _ _ c.in_ok-keep_command.ensures.kept c.answers_mut.ensures.value c.get.ensures.value is)
    c.run_told.ensures.text

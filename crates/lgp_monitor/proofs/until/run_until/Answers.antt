use Rattle.std.proofs.Common.{refl, subst}
use Rattle.lgp_script.specs.LabState.{LabState}
use Rattle.lgp_script.specs.UntilReply.{IsRepliedUntil}
use Rattle.lgp_monitor.proofs.PerformingLemmas.{until_line}
use Rattle.lgp_monitor.proofs.until.run_until.Goals as goal

pub returns-clause-answer : goal.returns-clause-answer
returns-clause-answer g c =
    until_line c.args.recorder.now _ c.keep_command.new.recorder _ c.run_until.new.self c.args.until c.args.limit c.get.result c.lowered-orders.result c.in_ok-done.done _ _ _
    c.requires c.in_ok-keep_command.ensures.sayable c.get.ensures.value
    (subst (λ (s : LabState). IsRepliedUntil c.args.until c.get.result s c.run_until.new.self c.in_ok-done.done) c.answers_mut.ensures.value c.in_ok-done.ensures)
    c.lowered-orders.ensures refl c.in_ok-keep_command.ensures.kept c.answers.ensures c.in_ok-push_explained.ensures c.in_ok-push_met.ensures

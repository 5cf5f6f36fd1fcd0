use Rattle.std.proofs.Common.{refl}
use Rattle.std.proofs.lemmas.Result.{IfOk-weaker}
use Rattle.lgp_monitor.proofs.PerformingLemmas.{performed}
use Rattle.lgp_monitor.proofs.performing.perform.Goals as goal

pub returns : goal.returns
returns g c =
    IfOk-weaker c.done.result _ _
    (λ said is. performed _ c.keep_command.new.recorder _ _ _ _ _ _ c.requires c.in_ok-keep_command.ensures.sayable c.in_ok-keep_command.ensures.kept c.answers_mut.ensures.value is refl)
    c.done.ensures

use Rattle.std.proofs.lemmas.Result.{IfOk-weaker}
use Rattle.lgp_monitor.proofs.OperatingLemmas.{ran}
use Rattle.lgp_monitor.proofs.operating.run.Goals as goal

pub returns : goal.returns
returns g c =
    IfOk-weaker c.perform.result _ _ (λ said is. ran c.args.limit c.args.recorder.now c.perform.new.recorder said c.requires is) c.perform.ensures

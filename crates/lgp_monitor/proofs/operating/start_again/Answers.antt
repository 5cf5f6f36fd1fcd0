use Rattle.std.proofs.lemmas.Result.{IfOk-weaker}
use Rattle.lgp_monitor.proofs.OperatingLemmas.{ran_again}
use Rattle.lgp_monitor.proofs.operating.start_again.Goals as goal

pub returns : goal.returns
returns g c =
    IfOk-weaker c.run.result _ _ (λ said is. ran_again c.args.limit c.args.recorder.now c.start.new.recorder c.run.new.recorder _ said c.in_ok-start.ensures is) c.run.ensures

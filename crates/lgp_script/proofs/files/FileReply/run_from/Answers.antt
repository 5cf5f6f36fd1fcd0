use Rattle.std.proofs.Common.{◌≡◌, ◌∙◌, Some, rules}
use Rattle.std.proofs.lemmas.Result.{IfOk-weaker}
use Rattle.lgp_script.specs.Files.{answer_left}
use Rattle.lgp_script.proofs.FileLemmas.{left_by_run}
use Rattle.lgp_script.proofs.files.FileReply.run_from.Goals as goal

pub returns-in-Ok : goal.returns-in-Ok
returns-in-Ok g c =
    let at : answer_left (Some c.machine.result.now.state) ≡ answer_left (Some c.run_freely.new.self.state) = rw c.machine.ensures in
    IfOk-weaker c.left_by.result _ _ (λ reply e. e ∙ (at ∙ left_by_run c.args.limit c.args.debugger.now c.run_freely.new.self c.in-Ok.field-0 (search rules) (search rules))) c.left_by.ensures

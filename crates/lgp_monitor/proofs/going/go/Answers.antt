use Rattle.std.proofs.lemmas.Result.{on_ok_weaker}
use Rattle.lgp_script.specs.Script.{script_language}
use Rattle.lgp_monitor.specs.GoInside.{executing_lines, jump_lines}
use Rattle.lgp_monitor.specs.Monitor.{go_lines}
use Rattle.lgp_monitor.proofs.GoLemmas.{both_parts}
use Rattle.lgp_monitor.proofs.going.go.Goals as goal

pub returns : goal.returns
unfolding go_lines
returns g c =
    on_ok_weaker c.execute_jump.result
    (λ is. both_parts script_language _ _ _ (jump_lines c.args.address) executing_lines _ _ _ c.in_ok-key_in_jump.ensures.answered is)
    c.execute_jump.ensures

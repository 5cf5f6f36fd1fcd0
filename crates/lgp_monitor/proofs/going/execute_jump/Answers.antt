use Rattle.std.proofs.lemmas.Result.{on_ok_weaker}
use Rattle.lgp_command.specs.CommandText.{action_name, action_position, command_text}
use Rattle.lgp_script.specs.Script.{script_language}
use Rattle.lgp_monitor.proofs.GoLemmas.{both_parts}
use Rattle.lgp_monitor.proofs.going.execute_jump.Goals as goal

pub returns : goal.returns
unfolding command_text action_name action_position
returns g c =
    let first = both_parts script_language _ _ _ _ _ _ _ _ c.in_ok-press.ensures.answered c.in_ok-press-2.ensures.answered in
    let second = both_parts script_language _ _ _ _ _ _ _ _ first c.in_ok-perform_one.ensures.answered in
    let third = both_parts script_language _ _ _ _ _ _ _ _ second c.in_ok-press-3.ensures.answered in
    on_ok_weaker c.press-4.result
    (λ is. both_parts script_language _ _ _ _ _ _ _ _ third is)
    c.press-4.ensures.answered

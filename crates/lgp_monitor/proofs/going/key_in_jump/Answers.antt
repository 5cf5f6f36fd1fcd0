use Rattle.std.proofs.lemmas.Result.{on_ok_weaker}
use Rattle.lgp_command.specs.CommandText.{action_name, action_position, command_text}
use Rattle.lgp_script.specs.Script.{script_language}
use Rattle.lgp_monitor.proofs.GoLemmas.{both_parts}
use Rattle.lgp_monitor.proofs.going.key_in_jump.Goals as goal

pub returns-clause-answered : goal.returns-clause-answered
unfolding command_text action_name action_position
returns-clause-answered g c =
    let first = both_parts script_language _ _ _ _ _ _ _ _ c.in_ok-press.ensures.answered c.in_ok-type_jump.ensures.answered in
    on_ok_weaker c.press-2.result
    (λ is. both_parts script_language _ _ _ _ _ _ _ _ first is)
    c.press-2.ensures.answered

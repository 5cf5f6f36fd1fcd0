use Rattle.lgp_script.specs.Script.{script_faults, script_text}
use Rattle.lgp_call.proofs.GivenLemmas.{text-given}
use Rattle.lgp_call.proofs.script.run_into.Goals as goal

pub returns : goal.returns
returns g c =
    let step = c.write_replies-answered in
    text-given step.result (script_text c.args.script.now) (script_faults c.args.script.now) c.new-replies.result.text.items step.new.replies.text.items c.deref.result.now _ _ _ _
    c.new-replies.ensures.text step.ensures.text step.ensures.questions c.deref.ensures.value c.give.ensures.given c.give.ensures.refused

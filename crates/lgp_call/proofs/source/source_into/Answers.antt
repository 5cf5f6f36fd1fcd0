use Rattle.lgp_call.specs.Reply.{source_answer}
use Rattle.lgp_call.proofs.GivenLemmas.{text-given}
use Rattle.lgp_call.proofs.source.source_into.Goals as goal

pub returns : goal.returns
returns g c =
    let step = c.write_answer-answered in
    let answer = source_answer c.args.wanted c.args.limit c.args.source.now in
    text-given step.result answer.text answer.status c.new-replies.result.text.items step.new.replies.text.items c.deref.result.now _ _ _ _
    c.new-replies.ensures.text step.ensures.text step.ensures.questions c.deref.ensures.value c.give.ensures.given c.give.ensures.refused

use Rattle.std.proofs.Common.{◌∙◌, sym}
use Rattle.lgp_monitor.proofs.MomentLines.{there}
use Rattle.lgp_monitor.proofs.monitor.answer_line.Goals as goal

pub returns-in-Some-clause-answer : goal.returns-in-Some-clause-answer
returns-in-Some-clause-answer g c = λ text kept.
    there c.args.recorder.now c.args.form c.args.line.now c.in-Some.order text kept (sym c.order_asked.ensures ∙ c.in-Some.is) c.answer_there.result c.args.reply.now.items c.answer_there.new.reply.items c.answer_there.ensures.reply

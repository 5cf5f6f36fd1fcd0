use Rattle.std.proofs.Common.{◌∙◌, ◌++◌, Err, List, ℕ, ap}
use Rattle.std.specs.Str.Lines.{lines}
use Rattle.lgp_script.specs.LabState.{opening_state}
use Rattle.lgp_moment.specs.Moment.{all_orders}
use Rattle.lgp_monitor.specs.Moments.{not_yet_text}
use Rattle.lgp_monitor.proofs.WayLines.{not_there}
use Rattle.lgp_monitor.proofs.way.bring.Goals as goal

pub returns-in_ok-push_not_yet-in-Err-NotYet-clause-answer : goal.returns-in_ok-push_not_yet-in-Err-NotYet-clause-answer
returns-in_ok-push_not_yet-in-Err-NotYet-clause-answer g c =
    let few = c.in-Err-NotYet.ensures.not_yet c.in-Err-NotYet.orders (ap Err c.in-Err-NotYet.field-0-is) in
    not_there c.args.recorder.now c.args.form c.args.order c.in-Err-NotYet.orders c.args.reply.now.items c.push_not_yet.new.text.items
    (few.0 ∙ ap (λ (t : List ℕ). all_orders opening_state (lines t)) c.transcript.ensures) few.1
    (c.in_ok-push_not_yet-in-Err-NotYet.ensures ∙ ap (λ (n : ℕ). c.args.reply.now.items ++ not_yet_text n) c.in-Err-NotYet.orders-is)

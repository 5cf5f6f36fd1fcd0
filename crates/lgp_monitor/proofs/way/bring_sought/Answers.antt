use Rattle.std.proofs.Common.{◌≡◌, ◌∙◌, List, None, ℕ, ap, rules, sym}
use Rattle.std.specs.Str.Lines.{lines}
use Rattle.lgp_script.specs.LabState.{opening_state}
use Rattle.lgp_moment.specs.Moment.{all_orders}
use Rattle.lgp_moment.specs.Search.{order_sought}
use Rattle.lgp_monitor.proofs.WayLines.{not_met}
use Rattle.lgp_monitor.proofs.way.bring_sought.Goals as goal

pub returns-in_default-clause-answer : goal.returns-in_default-clause-answer
returns-in_default-clause-answer g c =
    let none : c.in_ok-sought.sought.order ≡ None = search rules in
    not_met c.args.recorder.now c.args.form c.args.which c.args.condition c.in_ok-sought.sought.orders c.args.reply.now.items c.push_unmet.new.text.items
    (c.in_ok-sought.ensures.orders ∙ ap (λ (t : List ℕ). all_orders opening_state (lines t)) c.transcript.ensures)
    (sym (ap (λ (t : List ℕ). order_sought c.args.which c.args.condition opening_state (lines t)) c.transcript.ensures) ∙ (sym c.in_ok-sought.ensures.order ∙ none))
    c.in_ok-push_unmet.ensures

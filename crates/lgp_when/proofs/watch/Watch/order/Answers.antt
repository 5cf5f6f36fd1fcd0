-- Whether the order meets the condition is seen, and so how often it is still to be met.
use Rattle.std.proofs.Common.{◌≡◌, ◌∙◌, true, false, arith, sym, ap, subst, add-zero}
use Rattle.lgp_table.specs.Activity.{next}
use Rattle.lgp_table.specs.After.{after}
use Rattle.lgp_table.specs.State.{State}
use Rattle.lgp_debugger.specs.Debugging.{Debugging}
use Rattle.lgp_when.specs.When.{meets}
use Rattle.lgp_when.specs.Meeting.{IsMeeting}
use Rattle.lgp_when.proofs.UntilLemmas.{watching_more}
use Rattle.lgp_when.proofs.watch.Watch.order.Goals as goal

pub returns-then-met-clause-watched : goal.returns-then-met-clause-watched
returns-then-met-clause-watched g c s count watching there =
    let moved : c.order.new.debugger.state ≡ next (after s count) = ap (λ (d : Debugging). d.state) c.in_ok-met.ensures.order.2 ∙ ap next there in
    watching_more c.args.self.now c.order.new.self _ s count true watching c.order.ensures.condition
    (subst (IsMeeting c.order.new.self) moved c.in_ok-met.ensures.seen)
    (sym c.if-met.true ∙ (c.in_ok-met.ensures.met ∙ ap (λ (t : State). meets t c.args.self.now.meeting.condition) there))
    (let some = c.requires.left in omega (arith, some))

pub returns-else-met-clause-watched : goal.returns-else-met-clause-watched
returns-else-met-clause-watched g c s count watching there =
    let moved : c.order.new.debugger.state ≡ next (after s count) = ap (λ (d : Debugging). d.state) c.in_ok-met.ensures.order.2 ∙ ap next there in
    watching_more c.args.self.now c.order.new.self _ s count false watching c.order.ensures.condition
    (subst (IsMeeting c.order.new.self) moved c.in_ok-met.ensures.seen)
    (sym c.if-met.false ∙ (c.in_ok-met.ensures.met ∙ ap (λ (t : State). meets t c.args.self.now.meeting.condition) there))
    (sym (add-zero _))

use Rattle.std.proofs.Common.{ap, subst, sym, ◌∙◌}
use Rattle.lgp_table.specs.After.{after}
use Rattle.lgp_debugger.specs.Debugging.{Debugging}
use Rattle.lgp_debugger.specs.Run.{orders_of}
use Rattle.lgp_debugger.proofs.PerformedLemmas.{performed_state}
use Rattle.lgp_past.specs.Past.{CanPerform, Past, present}
use Rattle.lgp_past.proofs.PastLemmas.{present_orders}
use Rattle.lgp_past.proofs.Runs.{ran_can}
use Rattle.lgp_past.proofs.timeline.Timeline.run.Goals as goal

pub note_orders-requires : goal.note_orders-requires
note_orders-requires g c =
    subst (λ n. CanPerform (present c.self.inside.past.story) n) (sym c.orders_of.ensures)
    (subst (λ s. CanPerform s (orders_of c.run-outcome.result)) c.self.invariant (ran_can _ _ _ _ _ c.run-outcome.ensures.run))

pub invariant_of-self : goal.invariant_of-self
invariant_of-self g c =
    ap (λ (d : Debugging). d.state) c.run-outcome.ensures.run.performed ∙ performed_state c.self.inside.debugger (orders_of c.run-outcome.result)
    ∙ ap (λ s. after s (orders_of c.run-outcome.result)) c.self.invariant ∙ ap (λ n. after (present c.self.inside.past.story) n) (sym c.orders_of.ensures)
    ∙ present_orders c.self.inside.past.story c.orders_of.result ∙ ap (λ (p : Past). present p.story) (sym c.note_orders.ensures)

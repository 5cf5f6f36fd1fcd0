use Rattle.std.proofs.Common.{arith, subst, sym}
use Rattle.lgp_past.specs.Past.{CanPerform, Past, present}
use Rattle.lgp_past.proofs.PastLemmas.{kept_few, kept_orders}
use Rattle.lgp_past.proofs.past.Past.note_orders.Goals as goal

pub overflow_add-self : goal.overflow_add-self
overflow_add-self g c =
    let can = subst (λ (p : Past). CanPerform (present p.story) c.args.count) (sym c.self.view_is) c.requires in
    let few = kept_few _ _ _ _ _ (kept_orders _ _ _ _ _ c.self.invariant.0 c.args.count can) in
    omega (arith, few)

pub invariant_of-self : goal.invariant_of-self
invariant_of-self g c =
    let can = subst (λ (p : Past). CanPerform (present p.story) c.args.count) (sym c.self.view_is) c.requires in
    (kept_orders _ _ _ _ _ c.self.invariant.0 c.args.count can, c.self.invariant.1)

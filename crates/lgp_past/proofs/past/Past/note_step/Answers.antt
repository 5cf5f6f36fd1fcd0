use Rattle.std.proofs.Common.{arith, subst, sym, ◌+◌}
use Rattle.lgp_history.specs.Step.{plain}
use Rattle.lgp_history.specs.Steps.{CanStep}
use Rattle.lgp_past.specs.Past.{Past, present}
use Rattle.lgp_past.specs.PastInside.{IsKept}
use Rattle.lgp_past.proofs.PastLemmas.{kept_few, kept_step}
use Rattle.lgp_past.proofs.past.Past.note_step.Goals as goal

pub overflow_add-self : goal.overflow_add-self
overflow_add-self g c = let few = kept_few _ _ _ _ _ c.self.invariant.0 in omega (arith, few)

pub invariant_of-self : goal.invariant_of-self
invariant_of-self g c =
    let can = subst (λ (p : Past). CanStep (plain c.args.step) (present p.story)) (sym c.self.view_is) c.requires.possible in (
      subst (λ es. IsKept c.self.inside.first es (c.self.inside.before + c.self.inside.orders) 0 c.self.inside.copies.items) (sym c.push_reserved.ensures.items)
          (kept_step _ _ _ _ _ c.self.invariant.0 (plain c.args.step) can),
      λ h. cc,
    )

use Rattle.std.proofs.Common.{◌≡◌, ◌+◌, ◌++◌, ◌∷◌, [], ap, arith, length, subst, sym, ◌∙◌}
use Rattle.lgp_table.specs.Interleaving.{at_boundary}
use Rattle.lgp_past.specs.Past.{Past, present}
use Rattle.lgp_past.specs.PastInside.{IsKept}
use Rattle.lgp_past.proofs.PastLemmas.{kept_copy, kept_few}
use Rattle.lgp_past.proofs.past.Past.keep_copy.Goals as goal

pub overflow_add-copy : goal.overflow_add-copy
overflow_add-copy g c = let few = kept_few _ _ _ _ _ c.self.invariant.0 in omega (arith, few)

pub invariant_of-self-2 : goal.invariant_of-self-2
invariant_of-self-2 g c =
    let here = ap (λ (p : Past). at_boundary (present p.story)) (sym c.self.view_is) in
    let kept = kept_copy _ _ _ _ _ c.self.invariant.0 c.in_ok-copy.field-0 (c.in_ok-copy.ensures ∙ c.requires ∙ here) in
    let same : c.push_reserved.new.self.items ≡ c.self.inside.copies.items ++ record { place = length c.self.inside.events.items; within = c.self.inside.orders; orders = c.self.inside.before + c.self.inside.orders; machine = c.in_ok-copy.field-0 } ∷ [] =
    grind (arith, c.push_reserved.ensures.items, c.in_ok-reserve.ensures.items, c.len.ensures) in
    (subst (λ copies. IsKept c.self.inside.first c.self.inside.events.items c.self.inside.before c.self.inside.orders copies) (sym same) kept, c.self.invariant.1)

use Rattle.std.proofs.Common.{◌+◌, ◌-◌, ap, arith, length, subst, sym, take, zero-add, ◌∙◌}
use Rattle.lgp_past.specs.Past.{Past, events_until, orders_before, story_until}
use Rattle.lgp_past.specs.PastInside.{IsKept, orders_at}
use Rattle.lgp_past.proofs.PastLemmas.{kept_until, no_order, past_with, told_until}
use Rattle.lgp_past.proofs.past.Past.forget_after.Goals as goal

pub place_of-place-requires-clause-left : goal.place_of-place-requires-clause-left
place_of-place-requires-clause-left g c = let none = no_order in omega (arith, none, c.requires)

pub overflow_sub-self : goal.overflow_sub-self
overflow_sub-self g c = let none = no_order in omega (arith, none, c.place_of-place.ensures.left)

pub invariant_of-self : goal.invariant_of-self
invariant_of-self g c =
    let none = no_order in
    let long = ap (λ (p : Past). length p.story.events) c.self.view_is in
    let sum = ap (λ (p : Past). orders_before (take c.place_of-place.result.0 p.story.events)) c.self.view_is in
    let next = ap (λ (p : Past). orders_at p.story.events p.story.orders c.place_of-place.result.0) c.self.view_is in
    let kept = kept_until c.self.inside.events.items c.self.inside.orders c.place_of-place.result.0 c.place_of-place.result.1 (omega (arith, c.place_of-place.ensures.place, long))
    (λ before. let few = c.place_of-place.ensures.next (omega (arith, before, long)) in omega (arith, few, next))
    c.self.inside.first c.self.inside.before c.args.order c.self.inside.copies.items c.keep_until.new.copies.items c.keep_until.ensures.first_ones.0
    c.self.invariant.0 (omega (arith, c.place_of-place.ensures.within, next)) (omega (arith, c.place_of-place.ensures.left, sum, none))
    c.keep_until.ensures.first_ones.1 c.keep_until.ensures.no_later in (
      subst (λ es. IsKept c.self.inside.first es (c.args.order - c.place_of-place.result.1) c.place_of-place.result.1 c.keep_until.new.copies.items) (sym c.truncate.ensures.items) kept,
      λ room. let had = c.self.invariant.1 room in omega (arith, had, c.truncate.ensures.len, c.truncate.ensures.capacity),
    )

pub returns : goal.returns
returns g c =
    let none = no_order in
    let first = ap (λ (p : Past). p.story.first) c.self.view_is in
    let items = ap (λ (p : Past). take c.place_of-place.result.0 p.story.events) c.self.view_is in
    let room = ap (λ (p : Past). p.has_room) c.self.view_is in
    let whole = ap (λ n. events_until c.args.self.now.story.events (n + c.args.order)) (sym none) in
    told_until c.args.self.now.story c.args.order c.place_of-place.result.0 c.place_of-place.result.1 c.self.inside.first.machine.state c.truncate.new.self.items c.self.inside.has_room
    first (c.truncate.ensures.items ∙ items) (ap (events_until c.args.self.now.story.events) (sym (zero-add c.args.order)) ∙ whole ∙ c.place_of-place.ensures.until)
    (omega (arith, c.place_of-place.ensures.left, none))
    ∙ ap (past_with (story_until c.args.self.now.story c.args.order)) room

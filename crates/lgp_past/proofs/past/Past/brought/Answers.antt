use Rattle.std.proofs.Common.{◌≡◌, ◌-◌, ap, arith, length, refl, subst, sym, ◌∙◌}
use Rattle.lgp_table.specs.After.{after}
use Rattle.lgp_table.specs.Interleaving.{at_boundary}
use Rattle.lgp_history.specs.Steps.{CanStep, stepped}
use Rattle.lgp_past.specs.Past.{CanPerform, Past}
use Rattle.lgp_past.specs.PastInside.{ArePossible}
use Rattle.lgp_past.proofs.PastLemmas.{amid_can, amid_can_step, amid_few, amid_next, last_can, last_performed, read_at}
use Rattle.lgp_past.proofs.past.Past.brought.Goals as goal

pub overflow_sub-orders : goal.overflow_sub-orders
overflow_sub-orders g c =
    let long = ap (λ (p : Past). length p.story.events) c.self.view_is in
    let at = read_at _ c.args.self.now.story.events (length c.self.inside.events.items) c.loop-index.index c.index-event.result.now (ap (λ (p : Past). p.story.events) c.self.view_is) refl (omega (arith, c.loop-index-test.true, c.requires.place, long)) c.index-event.ensures in
    let possible = subst (λ (p : Past). ArePossible p.story.first p.story.events p.story.orders) c.self.view_is c.self.invariant.0.possible in
    let few = amid_few _ _ _ _ _ _ _ _ c.loop-index.invariant possible at in
    omega (arith, few, c.orders.ensures)

pub pass-requires-clause-orders : goal.pass-requires-clause-orders
pass-requires-clause-orders g c =
    let long = ap (λ (p : Past). length p.story.events) c.self.view_is in
    let at = read_at _ c.args.self.now.story.events (length c.self.inside.events.items) c.loop-index.index c.index-event.result.now (ap (λ (p : Past). p.story.events) c.self.view_is) refl (omega (arith, c.loop-index-test.true, c.requires.place, long)) c.index-event.ensures in
    let possible = subst (λ (p : Past). ArePossible p.story.first p.story.events p.story.orders) c.self.view_is c.self.invariant.0.possible in
    subst (λ n. CanPerform c.loop-index.machine.state (n - c.loop-index.done)) (sym c.orders.ensures)
    (amid_can _ _ _ _ _ _ _ _ c.loop-index.invariant possible at)

pub pass-requires-clause-step : goal.pass-requires-clause-step
pass-requires-clause-step g c =
    let long = ap (λ (p : Past). length p.story.events) c.self.view_is in
    let at = read_at _ c.args.self.now.story.events (length c.self.inside.events.items) c.loop-index.index c.index-event.result.now (ap (λ (p : Past). p.story.events) c.self.view_is) refl (omega (arith, c.loop-index-test.true, c.requires.place, long)) c.index-event.ensures in
    let possible = subst (λ (p : Past). ArePossible p.story.first p.story.events p.story.orders) c.self.view_is c.self.invariant.0.possible in
    subst (λ n. CanStep c.index-event.result.now.step (after c.loop-index.machine.state (n - c.loop-index.done))) (sym c.orders.ensures)
    (amid_can_step _ _ _ _ _ _ _ _ c.loop-index.invariant possible at)

pub loop-index-preserved : goal.loop-index-preserved
loop-index-preserved g c =
    let long = ap (λ (p : Past). length p.story.events) c.self.view_is in
    let at = read_at _ c.args.self.now.story.events (length c.self.inside.events.items) c.loop-index.index c.index-event.result.now (ap (λ (p : Past). p.story.events) c.self.view_is) refl (omega (arith, c.loop-index-test.true, c.requires.place, long)) c.index-event.ensures in
    let possible = subst (λ (p : Past). ArePossible p.story.first p.story.events p.story.orders) c.self.view_is c.self.invariant.0.possible in
    let moved = c.in_ok-pass.ensures ∙ ap (λ n. at_boundary (stepped c.index-event.result.now.step (after c.loop-index.machine.state (n - c.loop-index.done)))) c.orders.ensures in
    amid_next _ _ _ _ _ _ _ _ c.loop-index.invariant possible at c.args.place c.args.left _ refl c.loop-index-test.true moved

pub perform_all-requires-clause-possible : goal.perform_all-requires-clause-possible
perform_all-requires-clause-possible g c =
    let possible = subst (λ (p : Past). ArePossible p.story.first p.story.events p.story.orders) c.self.view_is c.self.invariant.0.possible in
    let end : c.loop-index.index ≡ c.args.place = let within = c.loop-index.auto.index-end (grind arith) in omega (arith, within, c.loop-index-test.false) in
    last_can _ _ _ _ _ _ _ _ c.loop-index.invariant end possible c.requires.place c.requires.within

pub returns : goal.returns
returns g c =
    let end : c.loop-index.index ≡ c.args.place = let within = c.loop-index.auto.index-end (grind arith) in omega (arith, within, c.loop-index-test.false) in
    last_performed _ _ _ _ _ _ _ _ c.loop-index.invariant end _ c.in_ok-perform_all.ensures

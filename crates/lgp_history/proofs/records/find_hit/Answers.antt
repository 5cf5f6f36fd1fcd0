use Rattle.std.proofs.Common.{refl, ap, sym, arith, ◌∙◌, ◌≡◌, ◌<◌, ◌+◌, ℕ, true, false, Some}
use Rattle.lgp_history.specs.Steps.{is_order}
use Rattle.lgp_history.proofs.KeptSteps.{order_count}
use Rattle.lgp_history.proofs.RecordedSteps.{last_hit-hit, last_hit-missed, last_hit-passed, orders_recorded-before}
use Rattle.lgp_history.proofs.records.find_hit.Goals as goal

pub loop-left-preserved-then-not-is_order : goal.loop-left-preserved-then-not-is_order
loop-left-preserved-then-not-is_order g c =
    let some : 0 < c.loop-left.left = omega arith in
    let order : is_order c.in-Some.record.now.step ≡ false = sym c.if-not-is_order.ensures in
    let at = sym c.in-Some.ensures in
    let count = orders_recorded-before _ _ _ some at in
    let zero : order_count c.in-Some.record.now.step ≡ 0 = rw order refl in
    record { within = omega arith; few = omega arith; orders_so_far = omega arith; none_so_far = λ now led. last_hit-passed _ _ now _ _ led some at (c.loop-left.invariant.none_so_far now led) order }

pub returns-in-Some-first_hit : goal.returns-in-Some-first_hit
returns-in-Some-first_hit g c = λ now led.
    let some : 0 < c.loop-left.left = omega arith in
    let order : is_order c.in-Some.record.now.step ≡ true = sym c.if-not-is_order.ensures in
    let at = sym c.in-Some.ensures in
    let hit = last_hit-hit _ _ now _ _ led some at (c.loop-left.invariant.none_so_far now led) order c.in-Some-first_hit.number (sym c.in-Some-first_hit.ensures) in
    ap (λ (orders : ℕ). Some (orders + 1, c.in-Some-first_hit.number)) c.loop-left.invariant.orders_so_far ∙ sym hit

pub loop-left-preserved : goal.loop-left-preserved
loop-left-preserved g c =
    let some : 0 < c.loop-left.left = omega arith in
    let order : is_order c.in-Some.record.now.step ≡ true = sym c.if-not-is_order.ensures in
    let at = sym c.in-Some.ensures in
    let count = orders_recorded-before _ _ _ some at in
    let one : order_count c.in-Some.record.now.step ≡ 1 = rw order refl in
    record { within = omega arith; few = omega arith; orders_so_far = omega arith; none_so_far = λ now led. last_hit-missed _ _ now _ _ led some at (c.loop-left.invariant.none_so_far now led) order (sym c.in_default-first_hit.ensures) }

use Rattle.std.proofs.Common.{◌≡◌, ◌+◌, ap, arith, length, rules, sym, take, take_all, vec_len, ◌∙◌}
use Rattle.lgp_past.specs.Past.{Past, orders_before}
use Rattle.lgp_past.specs.PastInside.{orders_at}
use Rattle.lgp_past.proofs.PastLemmas.{ended_state, ended_until, orders_at-end, orders_at-event, orders_before-next, placed_state, placed_until, read_at}
use Rattle.lgp_past.proofs.past.Past.place_of.Goals as goal

pub returns-then-left-orders-clause-within : goal.returns-then-left-orders-clause-within
returns-then-left-orders-clause-within g c =
    let same = ap (λ (p : Past). p.story.events) c.self.view_is in
    let whole : vec_len c.self.inside.events ≡ length c.self.inside.events.items = search rules in
    let at = read_at _ _ _ _ c.index.result.now same (c.len-place-end.ensures ∙ whole) c.loop-place-test.true c.index.ensures in
    let next = orders_at-event c.args.self.now.story.events c.args.self.now.story.orders c.loop-place.place c.index.result.now at in
    omega (arith, next, c.orders-orders.ensures, c.if-left-orders.true)

pub returns-then-left-orders-clause-next : goal.returns-then-left-orders-clause-next
returns-then-left-orders-clause-next g c before =
    let same = ap (λ (p : Past). p.story.events) c.self.view_is in
    let whole : vec_len c.self.inside.events ≡ length c.self.inside.events.items = search rules in
    let at = read_at _ _ _ _ c.index.result.now same (c.len-place-end.ensures ∙ whole) c.loop-place-test.true c.index.ensures in
    let next = orders_at-event c.args.self.now.story.events c.args.self.now.story.orders c.loop-place.place c.index.result.now at in
    omega (arith, next, c.orders-orders.ensures, c.if-left-orders.true)

pub returns-then-left-orders-clause-state : goal.returns-then-left-orders-clause-state
returns-then-left-orders-clause-state g c =
    let same = ap (λ (p : Past). p.story.events) c.self.view_is in
    let whole : vec_len c.self.inside.events ≡ length c.self.inside.events.items = search rules in
    let at = read_at _ _ _ _ c.index.result.now same (c.len-place-end.ensures ∙ whole) c.loop-place-test.true c.index.ensures in
    let long = ap (λ ys. length ys) same in
    placed_state _ _ _ _ _ c.loop-place.invariant _ (omega (arith, c.loop-place-test.true, c.len-place-end.ensures, whole, long)) at (omega (arith, c.orders-orders.ensures, c.if-left-orders.true))

pub returns-then-left-orders-clause-until : goal.returns-then-left-orders-clause-until
returns-then-left-orders-clause-until g c =
    let same = ap (λ (p : Past). p.story.events) c.self.view_is in
    let whole : vec_len c.self.inside.events ≡ length c.self.inside.events.items = search rules in
    let at = read_at _ _ _ _ c.index.result.now same (c.len-place-end.ensures ∙ whole) c.loop-place-test.true c.index.ensures in
    let long = ap (λ ys. length ys) same in
    placed_until c.args.self.now.story.first _ _ _ _ c.loop-place.invariant _ (omega (arith, c.loop-place-test.true, c.len-place-end.ensures, whole, long)) at (omega (arith, c.orders-orders.ensures, c.if-left-orders.true))

pub loop-place-preserved : goal.loop-place-preserved
loop-place-preserved g c =
    let same = ap (λ (p : Past). p.story.events) c.self.view_is in
    let whole : vec_len c.self.inside.events ≡ length c.self.inside.events.items = search rules in
    let at = read_at _ _ _ _ c.index.result.now same (c.len-place-end.ensures ∙ whole) c.loop-place-test.true c.index.ensures in
    let next = orders_before-next c.args.self.now.story.events c.loop-place.place c.index.result.now at in
    omega (arith, next, c.orders-orders.ensures, c.if-left-orders.false, c.loop-place.invariant)

pub returns-clause-within : goal.returns-clause-within
returns-clause-within g c =
    let long = ap (λ (p : Past). length p.story.events) c.self.view_is in
    let whole : vec_len c.self.inside.events ≡ length c.self.inside.events.items = search rules in
    let within = c.loop-place.auto.place-end (omega (arith, c.requires.from, c.len-place-end.ensures, whole, long)) in
    let end : c.loop-place.place ≡ length c.args.self.now.story.events = omega (arith, within, c.loop-place-test.false, c.len-place-end.ensures, whole, long) in
    let there : c.len.result ≡ length c.args.self.now.story.events = omega (arith, c.len.ensures, whole, long) in
    let last = ap (λ n. orders_at c.args.self.now.story.events c.args.self.now.story.orders n) there ∙ orders_at-end c.args.self.now.story.events c.args.self.now.story.orders in
    let all : take c.loop-place.place c.args.self.now.story.events ≡ c.args.self.now.story.events = take_all _ _ (omega (arith, end)) in
    let sum = ap orders_before all in
    omega (arith, last, sum, c.loop-place.invariant, c.requires.left)

pub returns-clause-next : goal.returns-clause-next
returns-clause-next g c before =
    let long = ap (λ (p : Past). length p.story.events) c.self.view_is in
    let whole : vec_len c.self.inside.events ≡ length c.self.inside.events.items = search rules in
    absurd (omega (arith, before, c.len.ensures, whole, long))

pub returns-clause-state : goal.returns-clause-state
returns-clause-state g c =
    let long = ap (λ (p : Past). length p.story.events) c.self.view_is in
    let whole : vec_len c.self.inside.events ≡ length c.self.inside.events.items = search rules in
    let within = c.loop-place.auto.place-end (omega (arith, c.requires.from, c.len-place-end.ensures, whole, long)) in
    let end : c.len.result ≡ length c.args.self.now.story.events = omega (arith, c.len.ensures, whole, long) in
    let same : c.loop-place.place ≡ c.len.result = omega (arith, within, c.loop-place-test.false, c.len-place-end.ensures, c.len.ensures) in
    ended_state _ _ _ _ _ (ap (λ n. orders_before (take n c.args.self.now.story.events) + c.loop-place.left) (sym same) ∙ c.loop-place.invariant) end

pub returns-clause-until : goal.returns-clause-until
returns-clause-until g c =
    let long = ap (λ (p : Past). length p.story.events) c.self.view_is in
    let whole : vec_len c.self.inside.events ≡ length c.self.inside.events.items = search rules in
    let within = c.loop-place.auto.place-end (omega (arith, c.requires.from, c.len-place-end.ensures, whole, long)) in
    let end : c.len.result ≡ length c.args.self.now.story.events = omega (arith, c.len.ensures, whole, long) in
    let same : c.loop-place.place ≡ c.len.result = omega (arith, within, c.loop-place-test.false, c.len-place-end.ensures, c.len.ensures) in
    ended_until c.args.self.now.story.first _ _ _ _ (ap (λ n. orders_before (take n c.args.self.now.story.events) + c.loop-place.left) (sym same) ∙ c.loop-place.invariant) end

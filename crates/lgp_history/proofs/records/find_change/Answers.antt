use Rattle.std.proofs.Common.{ap, sym, arith, rules, ◌∙◌, ◌≡◌, ◌<◌, ◌≤◌, ◌+◌, ◌-◌, ℕ, List, Some, drop, drop_of_length-le, length}
use Rattle.lgp_history.specs.Origins.{latest_change}
use Rattle.lgp_history.specs.RecordedInside.{Recorded, orders_recorded, read, recorded_changer}
use Rattle.lgp_history.specs.Steps.{first_state}
use Rattle.lgp_history.specs.declared.origin.Changer.{Changer}
use Rattle.lgp_history.proofs.KeptSteps.{bool_byte-few, bool_byte-order}
use Rattle.lgp_history.proofs.NotingLemmas.{none-before}
use Rattle.lgp_history.proofs.RecordedSteps.{orders_recorded-before}
use Rattle.lgp_history.proofs.OriginLemmas.{came, change-found, change-passed, no_change, register-before}
use Rattle.lgp_history.proofs.records.find_change.Goals as goal

pub loop-unread-init : goal.loop-unread-init
loop-unread-init g c =
    let rs = c.args.records.now.items in
    let past : length rs ≤ c.len-unread.result = omega arith in
    let none = drop_of_length-le rs past in
    record {
      within = omega arith;
      few = omega arith;
      orders_so_far = sym (ap (λ (xs : List Recorded). orders_recorded xs) none);
      held = search rules ∙ sym (ap (λ (xs : List Recorded). (first_state (read xs c.args.now.now.state) c.args.now.now.state).core.panel.register) none);
      none_so_far = ap (λ (xs : List Recorded). latest_change c.args.address (read xs c.args.now.now.state)) none ∙ no_change _;
    }

pub returns-in-Some-lost_at : goal.returns-in-Some-lost_at
returns-in-Some-lost_at g c =
    let rs = c.args.records.now.items in
    let r = c.in-Some.record.now in
    let some : 0 < c.loop-unread.unread = omega arith in
    let at = sym c.in-Some.ensures in
    let found = change-found _ rs _ _ r _ c.requires.leads some at c.loop-unread.invariant.none_so_far c.loop-unread.invariant.held c.in-Some-lost_at.lost (sym c.in-Some-lost_at.ensures) in
    let order = bool_byte-order _ _ c.is_order.ensures in
    let count = orders_recorded-before rs _ r some at in
    let orders : c.loop-unread.orders + c.from.result ≡ orders_recorded (drop (c.loop-unread.unread - 1) rs) = omega arith in
    ap (λ (changer : Changer). Some (came changer c.in-Some-lost_at.lost)) (c.changer-changer.ensures ∙ ap (λ (n : ℕ). recorded_changer r c.loop-unread.register n) orders) ∙ sym found

pub loop-unread-preserved : goal.loop-unread-preserved
loop-unread-preserved g c =
    let rs = c.args.records.now.items in
    let r = c.in-Some.record.now in
    let some : 0 < c.loop-unread.unread = omega arith in
    let at = sym c.in-Some.ensures in
    let order = bool_byte-order _ _ c.is_order.ensures in
    let few = bool_byte-few c.is_order.result in
    let count = orders_recorded-before rs c.loop-unread.unread r some at in
    record {
      within = omega arith;
      few = omega arith;
      orders_so_far = omega arith;
      held = c.register-register.ensures ∙ register-before rs c.args.now.now.state c.loop-unread.unread r c.requires.leads some at;
      none_so_far = change-passed _ rs _ _ r _ c.requires.leads some at c.loop-unread.invariant.none_so_far c.loop-unread.invariant.held (sym c.in_default-lost_at.ensures);
    }

pub returns-then-clock-unchanged_before : goal.returns-then-clock-unchanged_before
returns-then-clock-unchanged_before g c =
    let some : 0 < c.loop-unread.unread = omega arith in
    sym (none-before _ _ _ _ _ _ c.requires.leads c.requires.in_order some c.loop-unread.invariant.within (sym c.in-Some.ensures) (omega arith) c.requires.unchanged c.loop-unread.invariant.none_so_far)

use Rattle.std.proofs.Common.{ap, sym, arith, ◌∙◌, ◌≡◌, ◌+◌, ◌-◌, List, take, length, slice_get, Some}
use Rattle.circular_buffer.specs.Buffer.{Buffer}
use Rattle.lgp_table.specs.Interleaving.{Configuration, at_boundary}
use Rattle.lgp_history.specs.Steps.{state_back, steps_back}
use Rattle.lgp_history.specs.RecordedInside.{Recorded, read, undone}
use Rattle.lgp_history.proofs.KeptSteps.{bool_byte-few, bool_byte-order, order_count, state_back-none, steps_back-none}
use Rattle.lgp_history.proofs.RecordedSteps.{undone-last}
use Rattle.lgp_history.proofs.NotingLemmas.{get-take}
use Rattle.lgp_history.proofs.records.undo_orders.Goals as goal

pub undo-requires-clause-belongs : goal.undo-requires-clause-belongs
undo-requires-clause-belongs g c =
    let r = c.in-Some.record in
    let m = c.loop-left.left - c.from-left.result in
    let count = bool_byte-order _ _ c.is_order.ensures in
    let few = bool_byte-few c.is_order.result in
    (undone-last c.loop-left.records.items r c.loop-left.machine.state m (sym c.in-Some.ensures.value) (omega arith) (omega arith) c.loop-left.invariant.leads).belongs_there

pub loop-left-preserved : goal.loop-left-preserved
loop-left-preserved g c =
    let rs = c.loop-left.records.items in
    let r = c.in-Some.record in
    let s = c.loop-left.machine.state in
    let m = c.loop-left.left - c.from-left.result in
    let popped : slice_get rs (length rs - 1) ≡ Some r = sym c.in-Some.ensures.value in
    let count = bool_byte-order _ _ c.is_order.ensures in
    let few = bool_byte-few c.is_order.result in
    let whole : m + order_count r.step ≡ c.loop-left.left = omega arith in
    let u = undone-last rs r s m popped (omega arith) (omega arith) c.loop-left.invariant.leads in
    let items : c.pop_back.new.self.items ≡ take (length rs - 1) rs = ap (λ (b : Buffer Recorded). b.items) c.in-Some.ensures.items in
    let state : c.undo.new.machine.state ≡ undone r s = ap (λ (now : Configuration). now.state) c.undo.ensures in
    record {
      boundary = c.undo.ensures ∙ ap at_boundary (sym state);
      leads = rw (items, state) u.leads;
      recorded = rw items u.recorded;
      state = rw (items, state) (sym u.state ∙ ap (λ n. state_back n (read rs s) s) whole ∙ c.loop-left.invariant.state);
      steps = rw (items, state) (sym u.steps ∙ ap (λ n. steps_back n (read rs s)) whole ∙ c.loop-left.invariant.steps);
      first_ones = λ i x at. c.loop-left.invariant.first_ones i x (get-take (length rs - 1) i rs x (ap (λ (xs : List Recorded). slice_get xs i) (sym items) ∙ at));
      capacity = ap (λ (b : Buffer Recorded). b.capacity) c.in-Some.ensures.items ∙ c.loop-left.invariant.capacity;
    }

pub returns-clause-state : goal.returns-clause-state
returns-clause-state g c =
    let done : c.loop-left.left ≡ 0 = omega arith in
    let ks = read c.loop-left.records.items c.loop-left.machine.state in
    let s = c.loop-left.machine.state in
    c.loop-left.invariant.boundary ∙ ap at_boundary (sym (state_back-none ks s) ∙ ap (λ n. state_back n ks s) (sym done) ∙ c.loop-left.invariant.state)

pub returns-clause-steps : goal.returns-clause-steps
returns-clause-steps g c =
    let done : c.loop-left.left ≡ 0 = omega arith in
    let ks = read c.loop-left.records.items c.loop-left.machine.state in
    sym (steps_back-none ks) ∙ ap (λ n. steps_back n ks) (sym done) ∙ c.loop-left.invariant.steps

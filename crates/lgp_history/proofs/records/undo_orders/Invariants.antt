use Rattle.std.proofs.Common.{◌≡◌, ◌≤◌, ℕ, length, slice_get, Some}
use Rattle.lgp_table.specs.Interleaving.{at_boundary}
use Rattle.lgp_history.specs.Steps.{Leads, state_back, steps_back}
use Rattle.lgp_history.specs.RecordedInside.{Recorded, orders_recorded, read}
use Rattle.lgp_history.proofs.records.undo_orders.Given as goal

abbrev pub invariant-loop-left : goal.invariant-loop-left
invariant-loop-left g l = record {
  boundary : l.machine ≡ at_boundary l.machine.state;
  leads : Leads (read l.records.items l.machine.state) l.machine.state;
  recorded : l.left ≤ orders_recorded l.records.items;
  state : state_back l.left (read l.records.items l.machine.state) l.machine.state ≡ state_back l.fn.orders (read l.initial.records.items l.initial.machine.state) l.initial.machine.state;
  steps : steps_back l.left (read l.records.items l.machine.state) ≡ steps_back l.fn.orders (read l.initial.records.items l.initial.machine.state);
  first_ones : (i : ℕ) → (r : Recorded) → slice_get l.records.items i ≡ Some r → slice_get l.initial.records.items i ≡ Some r;
  capacity : l.records.capacity ≡ l.initial.records.capacity;
}

abbrev pub decreases-loop-left : goal.decreases-loop-left
decreases-loop-left g l = length l.records.items

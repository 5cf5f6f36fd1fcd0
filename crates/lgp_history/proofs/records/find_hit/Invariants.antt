use Rattle.std.proofs.Common.{◌≡◌, ◌+◌, ◌≤◌, drop, length, None}
use Rattle.lgp_table.specs.State.{State}
use Rattle.lgp_history.specs.Hits.{last_hit}
use Rattle.lgp_history.specs.Steps.{Leads}
use Rattle.lgp_history.specs.RecordedInside.{orders_recorded, read}
use Rattle.lgp_history.proofs.records.find_hit.Given as goal

abbrev pub invariant-loop-left : goal.invariant-loop-left
invariant-loop-left g l = record {
  within : l.left ≤ length l.records.items;
  few : l.orders + l.left ≤ length l.records.items;
  orders_so_far : l.orders ≡ orders_recorded (drop l.left l.records.items);
  none_so_far : (now : State) → Leads (read l.records.items now) now → last_hit l.rules (read (drop l.left l.records.items) now) ≡ None;
}

abbrev pub decreases-loop-left : goal.decreases-loop-left
decreases-loop-left g l = l.left

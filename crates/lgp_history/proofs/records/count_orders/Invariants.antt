use Rattle.std.proofs.Common.{◌≡◌, ◌+◌, ◌≤◌, drop}
use Rattle.lgp_history.specs.RecordedInside.{orders_recorded}
use Rattle.lgp_history.proofs.records.count_orders.Given as goal

abbrev pub invariant-loop-index : goal.invariant-loop-index
invariant-loop-index g l = record {
  few : l.orders ≤ l.index;
  so_far : l.orders + orders_recorded (drop l.index l.records.items) ≡ orders_recorded l.records.items;
}

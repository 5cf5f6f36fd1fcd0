use Rattle.std.proofs.Common.{◌≡◌, ◌+◌, ◌≤◌, drop, length, None}
use Rattle.lgp_history.specs.Origins.{latest_change}
use Rattle.lgp_history.specs.RecordedInside.{orders_recorded, read}
use Rattle.lgp_history.specs.Steps.{first_state}
use Rattle.lgp_history.proofs.records.find_change.Given as goal

abbrev pub invariant-loop-unread : goal.invariant-loop-unread
invariant-loop-unread g l = record {
  within : l.unread ≤ length l.records.items;
  few : l.orders + l.unread ≤ length l.records.items;
  orders_so_far : l.orders ≡ orders_recorded (drop l.unread l.records.items);
  held : l.register ≡ (first_state (read (drop l.unread l.records.items) l.now.state) l.now.state).core.panel.register;
  none_so_far : latest_change l.address (read (drop l.unread l.records.items) l.now.state) ≡ None;
}

abbrev pub decreases-loop-unread : goal.decreases-loop-unread
decreases-loop-unread g l = l.unread

use Rattle.std.proofs.Common.{◌≡◌, ◌≤◌}
use Rattle.lgp_table.specs.After.{after}
use Rattle.lgp_table.specs.Interleaving.{at_boundary}
use Rattle.lgp_past.proofs.copied.perform_all.Given as goal

abbrev pub invariant-loop : goal.invariant-loop
invariant-loop g l = record {
  there : l.machine ≡ at_boundary (after l.fn.machine.state l.counter);
  within : l.counter ≤ l.count;
}

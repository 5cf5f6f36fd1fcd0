use Rattle.std.proofs.Common.{◌≡◌}
use Rattle.lgp_debugger.proofs.RunLemmas.{HasRun}
use Rattle.lgp_when.specs.WhenInside.{IsWatching}
use Rattle.lgp_when.proofs.UntilLemmas.{AreBefore}
use Rattle.lgp_when.proofs.until.run_until.Given as goal

abbrev pub invariant-loop-orders : goal.invariant-loop-orders
invariant-loop-orders g l = record {
  run : HasRun (λ rules. rules) l.fn.debugger l.debugger l.orders;
  watching : IsWatching l.watch l.fn.debugger.state l.orders;
  before : AreBefore l.fn.until l.fn.debugger.state l.orders;
  condition : l.watch.meeting.condition ≡ l.fn.until.condition;
  times : l.watch.times ≡ l.fn.until.times;
}

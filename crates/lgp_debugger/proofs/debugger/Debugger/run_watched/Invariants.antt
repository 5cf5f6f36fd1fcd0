use Rattle.std.proofs.Common.{◌≡◌}
use Rattle.lgp_debugger.specs.Debugging.{Debugging}
use Rattle.lgp_debugger.specs.Watching.{AreSeen}
use Rattle.lgp_debugger.proofs.RunLemmas.{HasRun}
use Rattle.lgp_debugger.proofs.debugger.Debugger.run_watched.Given as goal

abbrev pub invariant-loop-orders : goal.invariant-loop-orders
invariant-loop-orders g l = record {
  run : HasRun (g.W.Watcher.in_force l.initial.watcher) l.initial.self l.self l.orders;
  seen : AreSeen (g.W.Watcher.Sees l.initial.watcher) l.initial.self l.initial.kept l.orders l.kept;
  ready : g.W.Watcher.ready l.watcher l.self l.kept;
  same_rules : g.W.Watcher.in_force l.watcher ≡ g.W.Watcher.in_force l.initial.watcher;
  same_eyes : (d : Debugging) (before after : g.row.K.Denot) → g.W.Watcher.Sees l.watcher d before after → g.W.Watcher.Sees l.initial.watcher d before after;
}

use Rattle.std.proofs.Common.{◌≡◌, map, take}
use Rattle.lgp_debugger.specs.WatchInside.{watch_of}
use Rattle.lgp_debugger.proofs.debugger.Debugger.watches.Given as goal

abbrev pub invariant-loop-rule : goal.invariant-loop-rule
invariant-loop-rule g l = l.watches.items ≡ map (watch_of l.self.state) (take l.rule-index l.rule-items)

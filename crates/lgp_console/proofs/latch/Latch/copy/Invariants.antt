use Rattle.std.proofs.Common.{◌≡◌, take}
use Rattle.lgp_console.proofs.latch.Latch.copy.Given as goal

abbrev pub invariant-loop-action : goal.invariant-loop-action
invariant-loop-action l = l.kept.items ≡ take l.action-index l.action-items

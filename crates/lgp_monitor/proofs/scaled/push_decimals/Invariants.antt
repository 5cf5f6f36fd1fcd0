use Rattle.std.proofs.Common.{◌≡◌, ◌++◌, ◌^◌, ◌<◌}
use Rattle.lgp_monitor.specs.Scaled.{decimals}
use Rattle.lgp_monitor.proofs.scaled.push_decimals.Given as goal

abbrev pub invariant-loop-more : goal.invariant-loop-more
invariant-loop-more g l = (l.text.items ++ decimals l.more l.rest ≡ l.fn.text.items ++ decimals 10 l.fn.number) × (l.rest < 10 ^ 10)

abbrev pub decreases-loop-more : goal.decreases-loop-more
decreases-loop-more g l = l.more

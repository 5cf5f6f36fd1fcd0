use Rattle.std.proofs.Common.{◌≡◌, ◌++◌, drop, flat_map}
use Rattle.lgp_optimum.specs.OptimumLines.{gain_line}
use Rattle.lgp_optimum.proofs.lines.push_gains.Given as goal

abbrev pub invariant-loop-gain : goal.invariant-loop-gain
invariant-loop-gain g l = l.text.items ++ flat_map (gain_line (g.L.Labels.label l.labels) l.whole) (drop l.gain-index l.gains) ≡ l.fn.text.items ++ flat_map (gain_line (g.L.Labels.label l.labels) l.whole) l.gains

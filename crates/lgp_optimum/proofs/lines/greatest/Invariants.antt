use Rattle.std.proofs.Common.{◌≡◌}
use Rattle.lgp_optimum.specs.OptimumLines.{greatest}
use Rattle.lgp_optimum.proofs.lines.greatest.Given as goal

abbrev pub invariant-loop-sector : goal.invariant-loop-sector
invariant-loop-sector l = l.most ≡ greatest l.times l.sector

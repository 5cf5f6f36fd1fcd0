use Rattle.std.proofs.Common.{◌≡◌, drop}
use Rattle.lgp_loader.specs.Cutting.{is_cutting}
use Rattle.lgp_loader.proofs.cutting.is_cutting.Given as goal

abbrev pub invariant-loop-count : goal.invariant-loop-count
invariant-loop-count l = is_cutting (drop l.count-index l.counts) l.left ≡ is_cutting l.counts l.cells

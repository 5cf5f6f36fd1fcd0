use Rattle.std.proofs.Common.{◌≡◌, ℕ, ◌<◌, length, slice_index}
use Rattle.lgp_optimum.specs.OptimumKept.{times_at}
use Rattle.lgp_optimum.proofs.optimum.Optimum.at.Given as goal

abbrev pub invariant-loop-sector : goal.invariant-loop-sector
invariant-loop-sector g l = record {
  long : length l.times ≡ 64;
  reported : (k : ℕ) → k < l.sector → slice_index l.times k ≡ times_at l.self l.word k;
}

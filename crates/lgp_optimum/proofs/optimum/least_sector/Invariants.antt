use Rattle.std.proofs.Common.{◌≡◌, ◌≢◌, ℕ, ◌<◌, ◌≤◌, slice_index}
use Rattle.lgp_optimum.proofs.optimum.least_sector.Given as goal

abbrev pub invariant-loop-sector : goal.invariant-loop-sector
invariant-loop-sector l = record {
  on_track : l.least < 64;
  none_less : (k : ℕ) → k < l.sector → slice_index l.times l.least ≤ slice_index l.times k;
  own : slice_index l.times l.least ≤ slice_index l.times l.own;
  first : (k : ℕ) → k < l.least → l.least ≢ l.own → slice_index l.times l.least < slice_index l.times k;
  stays : slice_index l.times l.least ≡ slice_index l.times l.own → l.least ≡ l.own;
  seen : l.least ≢ l.own → l.least < l.sector;
}

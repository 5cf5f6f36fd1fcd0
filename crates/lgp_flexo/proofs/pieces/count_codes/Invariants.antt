use Rattle.std.proofs.Common.{length, ◌-◌, ◌≡◌, ◌≤◌}
use Rattle.lgp_flexo.specs.PiecesInside.{rest_from, counted}
use Rattle.lgp_flexo.proofs.Reading.{added}
use Rattle.lgp_flexo.proofs.pieces.count_codes.Given as goal

abbrev pub invariant-loop-place : goal.invariant-loop-place
invariant-loop-place l = record {
  few : l.count ≤ l.place;
  so_far : counted (rest_from l.form l.text 0) ≡ added l.count (counted (rest_from l.form l.text l.place));
}

abbrev pub decreases-loop-place : goal.decreases-loop-place
decreases-loop-place l = length l.text - l.place

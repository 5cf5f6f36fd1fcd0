use Rattle.std.proofs.Common.{length, ◌-◌, ◌≡◌}
use Rattle.lgp_flexo.specs.TapeText.{before}
use Rattle.lgp_flexo.specs.PiecesInside.{rest_from}
use Rattle.lgp_flexo.proofs.pieces.collect_codes.Given as goal

abbrev pub invariant-loop-place : goal.invariant-loop-place
invariant-loop-place g l = rest_from l.form l.text 0 ≡ before l.codes.items (rest_from l.form l.text l.place)

abbrev pub decreases-loop-place : goal.decreases-loop-place
decreases-loop-place g l = length l.text - l.place

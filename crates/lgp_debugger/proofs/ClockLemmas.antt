-- What is left of a tape is within the limit.
use Rattle.std.proofs.Common.{◌≤◌, ℕ, arith, length}
use Rattle.std.proofs.lemmas.List.{length-append}
use Rattle.lgp_flexo.specs.Tape.{Tape, all_codes}

pub left_few : (tape : Tape) (limit : ℕ) → length (all_codes tape) ≤ limit → length tape.left ≤ limit
left_few tape limit few = omega (arith, few, length-append tape.passed tape.left)

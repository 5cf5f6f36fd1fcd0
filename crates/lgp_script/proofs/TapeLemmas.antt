-- The text of a line never stands for more codes than a tape takes.
use Rattle.std.proofs.Common.{ℕ, ◌<◌, ◌≤◌, Result, Ok, Err, IfOk, List, length, arith}
use Rattle.std.specs.Result.{IsOkAnd}
use Rattle.lgp_flexo.specs.TapeText.{codes_of_text, tape_limit}
use Rattle.lgp_flexo.proofs.Lengths.{codes_of_text-short}
use Rattle.lgp_stream.specs.KeptLine.{line_limit}

pub line_fits : (text : List ℕ) → length text ≤ line_limit → IsOkAnd (codes_of_text text) (λ codes. tape_limit < length codes) → ⊥
line_fits text short long = by_reading (codes_of_text text) (codes_of_text-short _) long where
  by_reading : (r : Result (List ℕ) ℕ) → IfOk r (λ codes. length codes ≤ length text) → IsOkAnd r (λ codes. tape_limit < length codes) → ⊥
  by_reading (Ok codes) few many = omega arith
  by_reading (Err bad) few many = many

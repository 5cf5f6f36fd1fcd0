-- The first place at which a byte passes a test, or else the text's length.
use Rattle.std.proofs.Common.{◌≡◌, ℕ, ◌<◌, ◌≤◌, Bool, true, false, not, nat_lt, List, length, refl, unwrap_or, ⊎_elim, arith}
use Rattle.std.specs.List.{position, position_or_len}
use Rattle.std.proofs.lemmas.Bool.{cases_lt}
use Rattle.std.proofs.lemmas.Bool.Decides.{nat_tests}
use Rattle.std.proofs.lemmas.List.Sums.{prefix_len-le-length}

pub position_within : (p : ℕ → Bool) (text : List ℕ) → position_or_len p text ≤ length text
position_within p text = prefix_len-le-length (λ x. not (p x)) text

pub unwrap_position : (p : ℕ → Bool) (text : List ℕ) → unwrap_or (position p text) (length text) ≡ position_or_len p text
unwrap_position p text = ⊎_elim
    (λ (inside : position_or_len p text < length text).
    let test : nat_lt (position_or_len p text) (length text) ≡ true = grind (arith, nat_tests) in
    rw test refl)
    (λ (outside : length text ≤ position_or_len p text).
    let within = position_within p text in
    let test : nat_lt (position_or_len p text) (length text) ≡ false = grind (arith, nat_tests) in
    let same : length text ≡ position_or_len p text = omega arith in
    rw test same)
    (cases_lt (position_or_len p text) (length text))

pub ruleset places = (position_within, unwrap_position)

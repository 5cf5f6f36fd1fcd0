-- Part of the public promise: quotients to the nearest whole number, ties away from zero (this
-- project's own choice).
use Rattle.std.specs.Prelude.{ℕ, ◌+◌, ◌*◌, ◌/◌, ◌≤◌, Bool, if◌then◌else◌, ℤ, pos, neg_ℤ, ◌-ℤ◌, ◌*ℤ◌}
use Rattle.std.specs.Prelude.{unsigned_abs}
use Rattle.std.specs.Int.{is_negative}
use Rattle.std.specs.Bool.{xor}

-- a number of this size, below zero or not
abbrev pub with_sign : Bool → ℕ → ℤ
with_sign negative size = if negative then neg_ℤ (pos size) else pos size

-- the whole number nearest to a quotient of sizes; of two that are equally near the greater one
abbrev pub nearest_size : ℕ → ℕ → ℕ
nearest_size dividend divisor = (2 * dividend + divisor) / (2 * divisor)

-- the whole number nearest to a quotient; of two that are equally near the one further from zero
unfoldable pub nearest : ℤ → ℤ → ℤ
nearest dividend divisor =
    with_sign (xor (is_negative dividend) (is_negative divisor))
    (nearest_size (unsigned_abs dividend) (unsigned_abs divisor))

-- how far a number is from a quotient, times the size of the divisor
abbrev pub deviation : ℤ → ℤ → ℤ → ℕ
deviation dividend divisor number = unsigned_abs (dividend -ℤ number *ℤ divisor)

-- no other whole number is nearer to the quotient, and one that is as near is no further from zero
abbrev pub IsNearest : ℤ → ℤ → ℤ → Type 0
IsNearest dividend divisor number =
    (other : ℤ)
    → (deviation dividend divisor number ≤ deviation dividend divisor other)
    × (deviation dividend divisor other ≤ deviation dividend divisor number
    → unsigned_abs other ≤ unsigned_abs number)

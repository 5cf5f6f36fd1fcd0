-- Part of the public promise: words as numbers whose point is after a place. A number is shown
-- with at most ten decimals, to the nearest, without the zeros at their end: exactly, where they
-- are enough.
use Rattle.std.specs.Prelude.{ℕ, zero, suc, ◌-◌, ◌*◌, ◌/◌, ◌%◌, ◌^◌, ◌++◌, ◌==◌, if◌then◌else◌}
use Rattle.std.specs.Prelude.{nat_le, Option, Some, None, option_and_then, List, [], ◌∷◌, codes}
use Rattle.std.specs.Prelude.{decimal}
use Rattle.lgp_word.specs.Decimal.{decimal_digit, decimal_number}
use Rattle.lgp_word.specs.Order.{sign_of}
use Rattle.lgp_fraction.specs.Rounding.{nearest_size}
use Rattle.lgp_trace.specs.AccountLines.{minus_text}

-- the place that a text says: one or two digits, 0 to 30
unfoldable pub point_of : List ℕ → Option ℕ
point_of text =
    option_and_then (λ place. if nat_le place 30 then Some place else None) (decimal_number 2 text)

-- a word as a number without its sign, where the point is after place 30
abbrev pub size_of : ℕ → ℕ
size_of word = if sign_of word then (2 ^ 32 - word) / 2 else word / 2

-- the same where the point is after another place, in units of 10^-10
unfoldable pub units_at : ℕ → ℕ → ℕ
units_at point size = nearest_size (size * 10 ^ 10) (2 ^ (30 - point))

-- at most a given number of digits of a number below 10^10, the first one first, without the zeros
-- at their end
unfoldable pub decimals : ℕ → ℕ → List ℕ
decimals zero number = []
decimals (suc more) number =
    if number == 0 then []
    else decimal_digit (number / 10 ^ 9) ∷ decimals more (number % 10 ^ 9 * 10)

-- a given number of units of 10^-10
unfoldable pub units_text : ℕ → List ℕ
units_text units =
    let rest = units % 10 ^ 10 in
    decimal (units / 10 ^ 10) ++ (if rest == 0 then [] else codes "." ++ decimals 10 rest)

-- a word as a number whose point is after a place
unfoldable pub scaled_text : ℕ → ℕ → List ℕ
scaled_text point word = minus_text (sign_of word) ++ units_text (units_at point (size_of word))

-- Part of the public promise: fractions as decimals (this project's own choice). A fraction is a
-- whole number of steps of 2^-30, from -1 up to just below 1. It is read from a sign, which may be
-- missing, a digit 0 or 1, which may be missing, a point and one to twelve digits; it is written
-- with a minus or a space, a point and ten digits. Both ways the nearest is taken.
use Rattle.std.specs.Prelude.{ℕ, ◌+◌, ◌*◌, ◌/◌, ◌%◌, ◌^◌, Bool, if◌then◌else◌, ◌&&◌, ◌||◌, ◌==◌, ℤ}
use Rattle.std.specs.Prelude.{pos, neg_ℤ, ◌*ℤ◌, int_lt, int_le, unsigned_abs, List, [], ◌∷◌, ◌++◌}
use Rattle.std.specs.Prelude.{length, drop, codes, slice_index, Result, Ok, Err}
use Rattle.std.specs.Int.{is_negative}
use Rattle.std.specs.Str.{byte}
use Rattle.lgp_word.specs.Decimal.{decimal_digit, decimal_of, is_decimal}
use Rattle.lgp_fraction.specs.Rounding.{nearest, with_sign}
use Rattle.lgp_fraction.specs.declared.fraction.FractionFault.{FractionFault}
use Rattle.lgp_fraction.specs.declared.fraction.FractionFault.TheVariants.{Form, OutOfRange}

-- the numbers of steps that a fraction may have
abbrev pub is_fraction : ℤ → Bool
is_fraction steps = int_le (neg_ℤ (pos (2 ^ 30))) steps && int_lt steps (pos (2 ^ 30))

-- the greatest number of digits past the point
abbrev pub most_places : ℕ
most_places = 12

-- a text without its first byte, where that is one of two
abbrev pub without : ℕ → ℕ → List ℕ → List ℕ
without one other text =
    if (slice_index text 0 == one) || (slice_index text 0 == other) then drop 1 text else text

-- what is left of a text after its sign
abbrev pub after_sign : List ℕ → List ℕ
after_sign text = without (byte "-") (byte " ") text

-- and after the digit before the point
abbrev pub after_whole : List ℕ → List ℕ
after_whole text = without (byte "0") (byte "1") (after_sign text)

-- the digits past the point
abbrev pub places : List ℕ → List ℕ
places text = drop 1 (after_whole text)

-- a text has the form of a fraction
abbrev pub is_fraction_text : List ℕ → Bool
is_fraction_text text =
    (slice_index (after_whole text) 0 == byte ".") && is_decimal most_places (places text)

-- what a text stands for in units of its last place, without its sign
abbrev pub units_of : List ℕ → ℕ
units_of text =
    (if slice_index (after_sign text) 0 == byte "1" then 10 ^ length (places text) else 0)
    + decimal_of (places text)

-- the number of steps nearest to what a text stands for
unfoldable pub steps_of_text : List ℕ → ℤ
steps_of_text text =
    nearest (with_sign (slice_index text 0 == byte "-") (units_of text * 2 ^ 30))
    (pos (10 ^ length (places text)))

-- the fraction of a number of steps
abbrev pub fraction_of : ℤ → Result ℤ FractionFault
fraction_of steps = if is_fraction steps then Ok steps else Err OutOfRange

-- the fraction that a text is
unfoldable pub decimal_fraction : List ℕ → Result ℤ FractionFault
decimal_fraction text = if is_fraction_text text then fraction_of (steps_of_text text) else Err Form

-- the last digit of a number
abbrev pub last_digit : ℕ → ℕ
last_digit number = decimal_digit (number % 10)

-- a number below 100,000 as five digits
unfoldable pub five_digits : ℕ → List ℕ
five_digits number =
    last_digit (number / 10000) ∷ last_digit (number / 1000) ∷ last_digit (number / 100)
    ∷ last_digit (number / 10) ∷ last_digit number ∷ []

-- the ten-digit number nearest to a fraction's size
abbrev pub ten_places : ℤ → ℕ
ten_places steps = unsigned_abs (nearest (steps *ℤ pos (10 ^ 10)) (pos (2 ^ 30)))

-- the text of a fraction above -1
unfoldable pub places_text : ℤ → List ℕ
places_text steps =
    (if is_negative steps then byte "-" else byte " ") ∷ byte "."
    ∷ (five_digits (ten_places steps / 100000) ++ five_digits (ten_places steps % 100000))

-- the text of a fraction; -1 alone has a digit before the point
unfoldable pub decimal_text : ℤ → List ℕ
decimal_text steps =
    if int_le steps (neg_ℤ (pos (2 ^ 30))) then codes "-1.000000000" else places_text steps

-- Part of the public promise: decimal numbers, as scripts, sources and fractions write them. Such a
-- number has one decimal digit or more, and at most a given number of digits.
use Rattle.std.specs.Prelude.{ℕ, ◌+◌, ◌-◌, ◌*◌, ◌&&◌, Bool, if◌then◌else◌, nat_le, Option, Some}
use Rattle.std.specs.Prelude.{None, List, length, fold}
use Rattle.std.specs.Char.{is_ascii_digit}
use Rattle.std.specs.List.{list_all}
use Rattle.std.specs.Str.{byte}

-- a given number of digits stand for a number of 64 bits
abbrev pub readable_digits : ℕ
readable_digits = 18

-- the digit of a value from 0 to 9, and the value of a digit
abbrev pub decimal_digit : ℕ → ℕ
decimal_digit value = byte "0" + value

abbrev pub decimal_value : ℕ → ℕ
decimal_value digit = digit - byte "0"

-- a number with one more digit after it
abbrev pub with_digit : ℕ → ℕ → ℕ
with_digit number digit = 10 * number + decimal_value digit

-- the number that decimal digits stand for
unfoldable pub decimal_of : List ℕ → ℕ
decimal_of digits = fold with_digit 0 digits

-- a text is a decimal number: at least one digit, at most a given number of them, and digits only
unfoldable pub is_decimal : ℕ → List ℕ → Bool
is_decimal most text =
    nat_le 1 (length text) && nat_le (length text) most && list_all is_ascii_digit text

-- the decimal number that a text is, if it is one
unfoldable pub decimal_number : ℕ → List ℕ → Option ℕ
decimal_number most text = if is_decimal most text then Some (decimal_of text) else None

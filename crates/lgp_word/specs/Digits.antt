-- Part of the public promise: how words and addresses are written (Programming Manual, "Hexadecimal
-- notation" and "The numbering of the drum"). A word is eight digits of base 16, where f g j k q w
-- stand for 10 to 15; an address is ttss, two decimal digits for the track and two for the sector.
use Rattle.std.specs.Prelude.{ℕ, ◌+◌, ◌*◌, ◌/◌, ◌%◌, ◌&&◌, ◌==◌, if◌then◌else◌, nat_lt, Option}
use Rattle.std.specs.Prelude.{Some, None, List, [], ◌∷◌, ◌++◌, length, codes, slice_index, position}
use Rattle.std.specs.Prelude.{option_and_then}
use Rattle.std.specs.Char.{is_ascii_digit}
use Rattle.std.specs.List.{list_all}
use Rattle.lgp_word.specs.Decimal.{decimal_digit, decimal_value}

-- the sixteen digits in order of their values
abbrev pub digits : List ℕ
digits = codes "0123456789fgjkqw"

unfoldable pub digit_byte : ℕ → ℕ
digit_byte value = slice_index digits value

-- what a byte stands for as a digit
unfoldable pub digit_value : ℕ → Option ℕ
digit_value byte = position (λ digit. digit == byte) digits

-- 16 bits as four digits
unfoldable pub four_digits : ℕ → List ℕ
four_digits number =
    digit_byte (number / 4096 % 16) ∷ digit_byte (number / 256 % 16) ∷ digit_byte (number / 16 % 16)
    ∷ digit_byte (number % 16) ∷ []

-- 32 bits as eight digits
unfoldable pub digits_of : ℕ → List ℕ
digits_of bits = four_digits (bits / 65536) ++ four_digits (bits % 65536)

-- the number that a list of digits stands for, after what was read before
abbrev pub number_of : ℕ → List ℕ → Option ℕ
number_of before [] = Some before
number_of before (byte ∷ bytes) =
    option_and_then (λ value. number_of (16 * before + value) bytes) (digit_value byte)

-- the word that a text is: exactly eight digits, an even number
unfoldable pub word_of_digits : List ℕ → Option ℕ
word_of_digits text =
    if length text == 8
    then option_and_then (λ number. if number % 2 == 0 then Some number else None)
    (number_of 0 text)
    else None

-- a number below 100 as two decimal digits
abbrev pub two_digits : ℕ → List ℕ
two_digits number = decimal_digit (number / 10) ∷ decimal_digit (number % 10) ∷ []

-- the text of an address
abbrev pub address_digits : ℕ → List ℕ
address_digits number = two_digits (number / 64) ++ two_digits (number % 64)

-- two decimal digits of a text as a number
abbrev pub two_at : List ℕ → ℕ → ℕ
two_at text place =
    10 * decimal_value (slice_index text place) + decimal_value (slice_index text (place + 1))

-- the address that a text is: exactly four decimal digits, each pair below 64
abbrev pub address_text : List ℕ → Option ℕ
address_text text =
    if (length text == 4) && list_all is_ascii_digit text && nat_lt (two_at text 0) 64
    && nat_lt (two_at text 2) 64
    then Some (64 * two_at text 0 + two_at text 2) else None

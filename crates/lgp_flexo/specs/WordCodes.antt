-- Part of the public promise: a word on the tape and on the keys is eight codes, one for each digit
-- of base 16.
use Rattle.std.specs.Prelude.{ℕ, ◌+◌, ◌*◌, ◌/◌, ◌%◌, List, [], ◌∷◌, ◌++◌}

-- the code of the digit that has this value
abbrev pub digit_code : ℕ → ℕ
digit_code value = 4 * value + 2

-- the codes of the four digits of 16 bits
unfoldable pub four_digit_codes : ℕ → List ℕ
four_digit_codes number =
    digit_code (number / 4096 % 16) ∷ digit_code (number / 256 % 16) ∷ digit_code (number / 16 % 16)
    ∷ digit_code (number % 16) ∷ []

-- the codes of a word's eight digits
unfoldable pub word_codes : ℕ → List ℕ
word_codes word = four_digit_codes (word / 65536) ++ four_digit_codes (word % 65536)

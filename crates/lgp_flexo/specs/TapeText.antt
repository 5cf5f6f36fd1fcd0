-- Part of the public promise: tapes written as text, a form of this project's own. A code with a
-- sign is written as that sign, any other as a group [nn] of two decimal digits. Reading takes a
-- group for any code; line feeds and carriage returns stand for nothing.
use Rattle.std.specs.Prelude.{ℕ, ◌+◌, ◌&&◌, ◌||◌, ◌==◌, Bool, nat_le, if◌then◌else◌, Option, Some}
use Rattle.std.specs.Prelude.{None, Result, Ok, Err, List, [], ◌∷◌, ◌++◌, codes, flat_map}
use Rattle.std.specs.Prelude.{option_and_then, option_map}
use Rattle.std.specs.Str.{byte}
use Rattle.lgp_word.specs.Decimal.{decimal_number}
use Rattle.lgp_word.specs.Digits.{two_digits}
use Rattle.lgp_flexo.specs.Code.{sign_at, code_at, greatest_code}

-- the greatest number of codes on a tape
abbrev pub tape_limit : ℕ
tape_limit = 1048576

-- a code as a group
abbrev pub group_of : ℕ → List ℕ
group_of code = codes "[" ++ two_digits code ++ codes "]"

abbrev pub sign_or_group : Option ℕ → ℕ → List ℕ
sign_or_group (Some sign) code = sign ∷ []
sign_or_group None code = group_of code

-- a code as it is written
abbrev pub written_code : ℕ → List ℕ
written_code code = sign_or_group (sign_at code) code

-- a tape as it is written
abbrev pub written_tape : List ℕ → List ℕ
written_tape tape = flat_map written_code tape

-- the code of a group of these two digits
abbrev pub code_of_number : ℕ → Option ℕ
code_of_number number = if nat_le number greatest_code then Some number else None

abbrev pub code_of_group : ℕ → ℕ → Option ℕ
code_of_group tens units = option_and_then code_of_number (decimal_number 2 (tens ∷ units ∷ []))

-- a code as the codes of a piece of text
abbrev pub single : ℕ → List ℕ
single code = code ∷ []

-- what a sign by itself stands for: nothing at a line's end (a line feed or a carriage return),
-- else its code
abbrev pub is_line_end : ℕ → Bool
is_line_end sign = (sign == 10) || (sign == 13)

abbrev pub codes_of_sign : ℕ → Option (List ℕ)
codes_of_sign sign = if is_line_end sign then Some [] else option_map single (code_at sign)

-- these codes in front of what follows
abbrev pub before : List ℕ → Result (List ℕ) ℕ → Result (List ℕ) ℕ
before codes (Ok following) = Ok (codes ++ following)
before codes (Err bad) = Err bad

-- what is at a place, in front of what follows; a place where nothing stands for codes is bad
abbrev pub joined : ℕ → Option (List ℕ) → Result (List ℕ) ℕ → Result (List ℕ) ℕ
joined place None following = Err place
joined place (Some codes) following = before codes following

-- the codes that a text stands for from a place on, or its first bad place: four bytes [nn] are a
-- group, any other byte is a sign by itself
unfoldable pub text_from : ℕ → List ℕ → Result (List ℕ) ℕ
text_from place (sign ∷ tens ∷ units ∷ close ∷ bytes) =
    if (sign == byte "[") && (close == byte "]")
    then joined place (option_map single (code_of_group tens units)) (text_from (place + 4) bytes)
    else joined place (codes_of_sign sign) (text_from (place + 1) (tens ∷ units ∷ close ∷ bytes))
text_from place (sign ∷ bytes) = joined place (codes_of_sign sign) (text_from (place + 1) bytes)
text_from place [] = Ok []

abbrev pub codes_of_text : List ℕ → Result (List ℕ) ℕ
codes_of_text text = text_from 0 text

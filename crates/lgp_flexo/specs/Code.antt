-- Part of the public promise: the six-bit codes of the Flexowriter's paper tape (Operations Manual,
-- "The Flexowriter"). Which sign belongs to which code is this project's own table.
use Rattle.std.specs.Prelude.{ℕ, ◌+◌, ◌*◌, ◌/◌, ◌%◌, ◌≤◌, Bool, not, ◌&&◌, ◌||◌, ◌==◌}
use Rattle.std.specs.Prelude.{if◌then◌else◌, Option, Some, None, List, codes, slice_get, position}
use Rattle.std.specs.Option.{option_map, option_or}
use Rattle.std.specs.Str.{byte}
use Rattle.lgp_word.specs.Digits.{digits}
use Rattle.lgp_word.specs.Order.{letters}

-- six holes, all of them punched
abbrev pub greatest_code : ℕ
greatest_code = 63

abbrev pub IsCode : ℕ → Type 0
IsCode number = number ≤ greatest_code

-- the letters of the sixteen orders are the signs of the codes 4*o + 1, o from 0 to 15, and the
-- digits of base 16 those of 4*d + 2, d from 0 to 15; these are the signs of the codes 4*k + 3, k
-- from 0 to 9; the first is the space
abbrev pub other_signs : List ℕ
other_signs = codes " -+;/.,vox"

-- the code of the conditional stop, whose sign is the apostrophe
abbrev pub stop_code : ℕ
stop_code = 32

abbrev pub stop_sign : ℕ
stop_sign = byte "'"

abbrev pub is_stop : ℕ → Bool
is_stop code = code == stop_code

-- the sign of a code, if it has one
unfoldable pub sign_at : ℕ → Option ℕ
sign_at code =
    if is_stop code then Some stop_sign
    else (if code % 4 == 1 then slice_get letters (code / 4)
    else (if code % 4 == 2 then slice_get digits (code / 4)
    else (if code % 4 == 3 then slice_get other_signs (code / 4)
    else None)))

-- the code 4*k + kind of the sign at place k of a row of signs
abbrev pub code_in_row : ℕ → List ℕ → ℕ → Option ℕ
code_in_row kind signs sign = option_map (λ k. 4 * k + kind) (position (λ s. s == sign) signs)

-- the code of a sign, if it has one; the letter l is read as the digit 1
unfoldable pub code_at : ℕ → Option ℕ
code_at sign =
    if sign == byte "l" then code_in_row 2 digits (byte "1")
    else (if sign == stop_sign then Some stop_code
    else option_or (code_in_row 1 letters sign)
    (option_or (code_in_row 2 digits sign) (code_in_row 3 other_signs sign)))

-- the digit d of a code 4*d + 2
abbrev pub digit_at : ℕ → Option ℕ
digit_at code = if code % 4 == 2 then Some (code / 4) else None

-- the code that deletes another by punching the rest of its holes
abbrev pub delete_code : ℕ
delete_code = greatest_code

-- the codes that an input passes over: those whose last two bits are 00, but for the conditional
-- stop; and delete
abbrev pub is_skipped : ℕ → Bool
is_skipped code = ((code % 4 == 0) && not (is_stop code)) || (code == delete_code)

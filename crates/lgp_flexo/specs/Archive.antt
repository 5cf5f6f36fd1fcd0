-- Part of the public promise: Flexowriter tapes in the ASCII form of archives. A byte stands for
-- what the simulator lgp of SIMH reads it as, where neither its manual nor what it writes says
-- otherwise; any other byte is bad. The codes of the signs are those of this project's own table.
use Rattle.std.specs.Prelude.{ℕ, ◌+◌, ◌==◌, if◌then◌else◌, Option, Some, Result, Ok, List, [], ◌∷◌}
use Rattle.std.specs.Prelude.{codes, position, slice_get, unwrap_or, option_and_then, option_map}
use Rattle.std.specs.Char.{to_ascii_lowercase}
use Rattle.std.specs.Str.{byte}
use Rattle.lgp_flexo.specs.Code.{code_at}
use Rattle.lgp_flexo.specs.TapeText.{code_of_group, joined, single}

-- the lower sign of the key of an upper one, by the rows of both; the keys of the letters and of 0
-- and 1 are not among these
abbrev pub lower_in_row : ℕ → Option ℕ
lower_in_row sign =
    option_and_then (slice_get (codes "23456789-+;/.,"))
    (position (λ s. s == sign) (codes "*\"^%$~#(_=:?]["))

-- the lower sign of the key of a sign: of a capital letter the small one
abbrev pub lower_sign : ℕ → ℕ
lower_sign sign = unwrap_or (lower_in_row sign) (to_ascii_lowercase sign)

-- the code of a sign, upper or lower; backspace, tab and carriage return are those of ASCII, and a
-- stroke is the color shift
abbrev pub code_of_archived : ℕ → Option ℕ
code_of_archived sign =
    if sign == 8 then Some 20
    else (if sign == 9 then Some 24
    else (if sign == 13 then Some 16
    else (if sign == byte "|" then Some 12
    else code_at (lower_sign sign))))

-- what a sign by itself stands for: a line feed for nothing
abbrev pub codes_of_archived : ℕ → Option (List ℕ)
codes_of_archived sign = if sign == 10 then Some [] else option_map single (code_of_archived sign)

-- the codes that a text stands for from a place on, or its first bad place: a `!` and two decimal
-- digits from 00 to 63 are the code of that number, any other byte is a sign by itself
unfoldable pub archived_from : ℕ → List ℕ → Result (List ℕ) ℕ
archived_from place (sign ∷ tens ∷ units ∷ bytes) =
    if sign == byte "!"
    then joined place (option_map single (code_of_group tens units))
    (archived_from (place + 3) bytes)
    else joined place (codes_of_archived sign) (archived_from (place + 1) (tens ∷ units ∷ bytes))
archived_from place (sign ∷ bytes) =
    joined place (codes_of_archived sign) (archived_from (place + 1) bytes)
archived_from place [] = Ok []

abbrev pub codes_of_archive : List ℕ → Result (List ℕ) ℕ
codes_of_archive text = archived_from 0 text

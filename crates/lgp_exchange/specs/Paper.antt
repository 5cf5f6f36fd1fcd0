-- Part of the public promise: what the typewriter writes on its paper for printed codes, as lines
-- of text. The upper signs of keys are those of the form of archives; where it is not known which
-- sign a key has, the code is shown as in a tape's text. Tab stops at each eighth column, and that
-- the last sign struck at a column is shown, are this project's own choices.
use Rattle.std.specs.Prelude.{ℕ, ◌+◌, ◌-◌, ◌*◌, ◌/◌, ◌++◌, ◌==◌, ◌||◌, if◌then◌else◌, Bool, true}
use Rattle.std.specs.Prelude.{false, Option, List, [], ◌∷◌, length, codes, flat_map, position}
use Rattle.std.specs.Prelude.{replicate, slice_get, slice_set, is_some, option_and_then}
use Rattle.lgp_flexo.specs.Code.{delete_code, sign_at}
use Rattle.lgp_flexo.specs.TapeText.{sign_or_group, written_code}

-- the signs of the keys whose upper sign is known, and these upper signs; those of 0 and of the
-- conditional stop are not known
abbrev pub lower_signs : List ℕ
lower_signs = codes " 123456789-+;/.,abcdefghijkmnopqrstuvwxyz"

abbrev pub upper_signs : List ℕ
upper_signs = codes " L*\"^%$~#(_=:?][ABCDEFGHIJKMNOPQRSTUVWXYZ"

abbrev pub upper_sign : ℕ → Option ℕ
upper_sign sign = option_and_then (slice_get upper_signs) (position (λ s. s == sign) lower_signs)

-- what is at one column of a row: a code, and whether it was struck in upper case
abbrev pub Struck : Type 0
Struck = Bool × ℕ

-- its sign, if it is known; a code without a sign is shown as a group
abbrev pub sign_struck : Struck → Option ℕ
sign_struck struck =
    if struck.0 then option_and_then upper_sign (sign_at struck.1) else sign_at struck.1

abbrev pub struck_text : Struck → List ℕ
struck_text struck = sign_or_group (sign_struck struck) struck.1

-- the code of the space, and a column where nothing else was struck
abbrev pub space_code : ℕ
space_code = 3

abbrev pub blank : Struck
blank = (false, space_code)

abbrev pub row_text : List Struck → List ℕ
row_text row = flat_map struck_text row

-- the carriage: whether the case is upper, the column it is at, and what the row has up to the
-- column furthest to the right that it was at
pub record Carriage : Type 0 where
  pub upper : Bool
  pub column : ℕ
  pub row : List Struck

-- at the start of a row, in lower case
abbrev pub first_carriage : Carriage
first_carriage = record { upper = false; column = 0; row = [] }

-- the stop after a column
abbrev pub tab_stop : ℕ → ℕ
tab_stop column = (column / 8 + 1) * 8

-- the row after a code is struck at a column: it takes the place of what is there, but a space
-- leaves that
abbrev pub row_struck : List Struck → ℕ → Struck → List Struck
row_struck row column struck =
    if column == length row then row ++ struck ∷ []
    else (if struck.1 == space_code then row else slice_set row column struck)

-- the carriage after a code is struck, and after a tab
abbrev pub struck_at : Carriage → ℕ → Carriage
struck_at at code = record at {
  column = at.column + 1;
  row = row_struck at.row at.column (at.upper, code);
}

abbrev pub tabbed : Carriage → Carriage
tabbed at = record at {
  column = tab_stop at.column;
  row = at.row ++ replicate (tab_stop at.column - length at.row) blank;
}

-- the carriage after a code: lower case 4, upper case 8, carriage return 16, backspace 20, tab 24;
-- blank tape 0, color 12 and delete 63 leave it as it is, and any other code is struck
unfoldable pub carriage_after : Carriage → ℕ → Carriage
carriage_after at code =
    if (code == 0) || (code == 12) || (code == delete_code) then at
    else (if code == 4 then record at { upper = false }
    else (if code == 8 then record at { upper = true }
    else (if code == 16 then record at { column = 0; row = [] }
    else (if code == 20 then record at { column = at.column - 1 }
    else (if code == 24 then tabbed at
    else struck_at at code)))))

-- what a code completes: at a carriage return the row as a line
abbrev pub completed : Carriage → ℕ → List ℕ
completed at code = if code == 16 then row_text at.row ++ codes "\n" else []

-- the text of the paper from a carriage on, with the last row, which may be empty
unfoldable pub paper_from : Carriage → List ℕ → List ℕ
paper_from at [] = row_text at.row
paper_from at (code ∷ codes) = completed at code ++ paper_from (carriage_after at code) codes

abbrev pub paper_of : List ℕ → List ℕ
paper_of printed = paper_from first_carriage printed

-- a code that is shown as it is in a tape's text, and a carriage return, which is a line feed
abbrev pub is_plain : ℕ → Bool
is_plain code = is_some (sign_at code) || (code == 16)

abbrev pub plain_text : ℕ → List ℕ
plain_text code = if code == 16 then codes "\n" else written_code code

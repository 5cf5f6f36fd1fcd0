-- Serves proofs only: a tape's text read piece by piece, for the functions that do so.
use Rattle.std.specs.Prelude.{ℕ, ◌==◌, ◌&&◌, if◌then◌else◌, Bool, false, Option, None, Result, Ok}
use Rattle.std.specs.Prelude.{Err, List, [], ◌∷◌, length, drop, option_map}
use Rattle.std.specs.Str.{byte}
use Rattle.lgp_flexo.specs.TapeText.{code_of_group, codes_of_sign, single, text_from}
use Rattle.lgp_flexo.specs.Archive.{archived_from, codes_of_archived}
use Rattle.lgp_flexo.specs.declared.pieces.TextForm.{TextForm}
use Rattle.lgp_flexo.specs.declared.pieces.TextForm.TheVariants.{Own, Archived}

-- what a text of a form stands for from a place on at which a piece begins
abbrev pub read_from : TextForm → ℕ → List ℕ → Result (List ℕ) ℕ
read_from Own place text = text_from place text
read_from Archived place text = archived_from place text

abbrev pub rest_from : TextForm → List ℕ → ℕ → Result (List ℕ) ℕ
rest_from form text place = read_from form place (drop place text)

-- how many codes it stands for
abbrev pub counted : Result (List ℕ) ℕ → Result ℕ ℕ
counted (Ok codes) = Ok (length codes)
counted (Err bad) = Err bad

-- how many bytes the first piece of a text of this project's own has, and which codes it stands for
abbrev pub begins_group : List ℕ → Bool
begins_group (sign ∷ tens ∷ units ∷ close ∷ bytes) = (sign == byte "[") && (close == byte "]")
begins_group bytes = false

abbrev pub own_length : List ℕ → ℕ
own_length text = if begins_group text then 4 else 1

abbrev pub own_codes : List ℕ → Option (List ℕ)
own_codes (sign ∷ tens ∷ units ∷ close ∷ bytes) =
    if (sign == byte "[") && (close == byte "]")
    then option_map single (code_of_group tens units) else codes_of_sign sign
own_codes (sign ∷ bytes) = codes_of_sign sign
own_codes [] = None

-- the same of a text of an archive
abbrev pub archived_length : List ℕ → ℕ
archived_length (sign ∷ tens ∷ units ∷ bytes) = if sign == byte "!" then 3 else 1
archived_length bytes = 1

abbrev pub archived_codes : List ℕ → Option (List ℕ)
archived_codes (sign ∷ tens ∷ units ∷ bytes) =
    if sign == byte "!"
    then option_map single (code_of_group tens units) else codes_of_archived sign
archived_codes (sign ∷ bytes) = codes_of_archived sign
archived_codes [] = None

-- the same of a text of a form
abbrev pub piece_length : TextForm → List ℕ → ℕ
piece_length Own text = own_length text
piece_length Archived text = archived_length text

abbrev pub first_codes : TextForm → List ℕ → Option (List ℕ)
first_codes Own text = own_codes text
first_codes Archived text = archived_codes text

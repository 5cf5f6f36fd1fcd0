-- Reading a text from a place on.
use Rattle.std.proofs.Common.{◌≡◌, ℕ, ◌+◌, ◌<◌, ◌≤◌, ◌==◌, Bool, true, false, cond, List, [], ◌∷◌, ◌++◌, length, drop, take, ◌-◌, Some, None, Result, Ok, Err, refl, ap, sym, ◌∙◌, append_assoc, arith, length-drop}
use Rattle.std.specs.Option.{option_map}
use Rattle.std.specs.Str.{byte}
use Rattle.std.proofs.Math.ListN.{drop_of_length-le}
use Rattle.std.proofs.lemmas.List.{drop-drop, take_rest}
use Rattle.lgp_flexo.specs.TapeText.{before, code_of_group, codes_of_sign, joined, single, text_from}
use Rattle.lgp_flexo.specs.Archive.{archived_from, codes_of_archived}
use Rattle.lgp_flexo.specs.PiecesInside.{archived_codes, archived_length, first_codes, own_codes, own_length, piece_length, read_from, rest_from}
use Rattle.lgp_flexo.specs.declared.pieces.TextForm.{TextForm}
use Rattle.lgp_flexo.specs.declared.pieces.TextForm.TheVariants.{Own, Archived}

-- this many codes in front of what follows
abbrev pub added : ℕ → Result ℕ ℕ → Result ℕ ℕ
added count (Ok following) = Ok (count + following)
added count (Err bad) = Err bad

-- an empty text stands for nothing
read_from-nothing : (form : TextForm) (place : ℕ) → read_from form place [] ≡ Ok []
unfolding text_from archived_from
read_from-nothing Own place = refl
read_from-nothing Archived place = refl

-- a text's first piece, and what follows it
text_from-piece : (place : ℕ) (text : List ℕ) → 0 < length text
    → text_from place text ≡ joined place (own_codes text) (text_from (place + own_length text) (drop (own_length text) text))
unfolding text_from
text_from-piece place [] some = absurd (omega arith)
text_from-piece place (a ∷ []) some = refl
text_from-piece place (a ∷ b ∷ []) some = refl
text_from-piece place (a ∷ b ∷ c ∷ []) some = refl
text_from-piece place (a ∷ b ∷ c ∷ d ∷ rest) some = by_group _ where
  by_group : (t : Bool)
      → cond t (joined place (option_map single (code_of_group b c)) (text_from (place + 4) rest)) (joined place (codes_of_sign a) (text_from (place + 1) (b ∷ c ∷ d ∷ rest)))
      ≡ joined place (cond t (option_map single (code_of_group b c)) (codes_of_sign a)) (text_from (place + cond t 4 1) (drop (cond t 4 1) (a ∷ b ∷ c ∷ d ∷ rest)))
  by_group true = refl
  by_group false = refl

archived_from-piece : (place : ℕ) (text : List ℕ) → 0 < length text
    → archived_from place text ≡ joined place (archived_codes text) (archived_from (place + archived_length text) (drop (archived_length text) text))
unfolding archived_from
archived_from-piece place [] some = absurd (omega arith)
archived_from-piece place (a ∷ []) some = refl
archived_from-piece place (a ∷ b ∷ []) some = refl
archived_from-piece place (a ∷ b ∷ c ∷ rest) some = by_group (a == byte "!") where
  by_group : (t : Bool)
      → cond t (joined place (option_map single (code_of_group b c)) (archived_from (place + 3) rest)) (joined place (codes_of_archived a) (archived_from (place + 1) (b ∷ c ∷ rest)))
      ≡ joined place (cond t (option_map single (code_of_group b c)) (codes_of_archived a)) (archived_from (place + cond t 3 1) (drop (cond t 3 1) (a ∷ b ∷ c ∷ rest)))
  by_group true = refl
  by_group false = refl

read_from-piece : (form : TextForm) (place : ℕ) (text : List ℕ) → 0 < length text
    → read_from form place text ≡ joined place (first_codes form text) (read_from form (place + piece_length form text) (drop (piece_length form text) text))
read_from-piece Own place text some = text_from-piece place text some
read_from-piece Archived place text some = archived_from-piece place text some

-- after its end a text stands for nothing
pub rest_from_end : (form : TextForm) (text : List ℕ) (place : ℕ) → length text ≤ place → rest_from form text place ≡ Ok []
rest_from_end form text place past = ap (read_from form place) (drop_of_length-le text past) ∙ read_from-nothing form place

-- the same from a place on
rest_from-piece : (form : TextForm) (text : List ℕ) (place : ℕ) → place < length text
    → rest_from form text place ≡ joined place (first_codes form (drop place text)) (rest_from form text (place + piece_length form (drop place text)))
rest_from-piece form text place within =
    let some : 0 < length (drop place text) = omega (arith, length-drop place text) in
    read_from-piece form place (drop place text) some
    ∙ ap (λ bytes. joined place (first_codes form (drop place text)) (read_from form (place + piece_length form (drop place text)) bytes))
    (drop-drop (piece_length form (drop place text)) place text)

-- the same where the piece is there, as the code reads it, and where none is there
pub rest_from-some : (form : TextForm) (text codes : List ℕ) (place past : ℕ) → place < length text
    → Some codes ≡ first_codes form (take (length text - place) (drop place text))
    → past ≡ piece_length form (take (length text - place) (drop place text))
    → rest_from form text place ≡ before codes (rest_from form text (place + past))
rest_from-some form text codes place past within piece is =
    let whole : take (length text - place) (drop place text) ≡ drop place text = take_rest text place in
    let found : first_codes form (drop place text) ≡ Some codes = ap (first_codes form) (sym whole) ∙ sym piece in
    let long : piece_length form (drop place text) ≡ past = ap (piece_length form) (sym whole) ∙ sym is in
    rest_from-piece form text place within
    ∙ ap (λ p. joined place p (rest_from form text (place + piece_length form (drop place text)))) found
    ∙ ap (λ n. before codes (rest_from form text (place + n))) long

pub rest_from-none : (form : TextForm) (text : List ℕ) (place : ℕ) → place < length text
    → None ≡ first_codes form (take (length text - place) (drop place text))
    → rest_from form text place ≡ Err place
rest_from-none form text place within none =
    let found : first_codes form (drop place text) ≡ None = ap (first_codes form) (sym (take_rest text place)) ∙ sym none in
    rest_from-piece form text place within
    ∙ ap (λ p. joined place p (rest_from form text (place + piece_length form (drop place text)))) found

-- codes in front of codes
pub before-before : (first codes : List ℕ) (following : Result (List ℕ) ℕ) → before first (before codes following) ≡ before (first ++ codes) following
before-before first codes (Ok following) = ap Ok (sym (append_assoc first codes following))
before-before first codes (Err bad) = refl

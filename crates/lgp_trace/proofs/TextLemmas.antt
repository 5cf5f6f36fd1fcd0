-- What is appended to a text in columns.
use Rattle.std.proofs.Common.{◌≡◌, ◌∙◌, ℕ, ◌+◌, ◌-◌, ◌++◌, [], ◌∷◌, List, length, replicate, length-append, append_assoc, ap, arith}
use Rattle.std.proofs.lemmas.List.{append-nil, replicate_more}
use Rattle.lgp_trace.specs.Columns.{blanks, left_aligned}

-- how long a text is that was appended to another
long : (before text : List ℕ) → length (before ++ text) - length before ≡ length text
long before text = omega (arith, length-append before text)

-- a text and the blanks after it are the text in its column
pub column : (width : ℕ) (before text : List ℕ) → (before ++ text) ++ blanks (width - (length (before ++ text) - length before)) ≡ before ++ left_aligned width text
column width before text = rw (long before text) (append_assoc before text (blanks (width - length text)))

pub ruleset columns = (column)

-- one copy more
pub copies_more : (before : List ℕ) (count byte : ℕ) → (before ++ replicate count byte) ++ byte ∷ [] ≡ before ++ replicate (count + 1) byte
copies_more before count byte = append_assoc before (replicate count byte) (byte ∷ []) ∙ ap (λ (t : List ℕ). before ++ t) (replicate_more _ _)

pub ruleset copies = (copies_more, append-nil)

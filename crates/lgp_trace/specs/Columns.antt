-- Part of the public promise. Columns of a line: a number is at the right of its column and a
-- text at the left; what is wider than its column is shown whole.
use Rattle.std.specs.Prelude.{ℕ, ◌-◌, ◌++◌, List, codes, decimal, length, replicate}
use Rattle.std.specs.Str.{byte}

abbrev pub blanks : ℕ → List ℕ
blanks count = replicate count (byte " ")

abbrev pub right_aligned : ℕ → ℕ → List ℕ
right_aligned width number = blanks (width - length (decimal number)) ++ decimal number

abbrev pub left_aligned : ℕ → List ℕ → List ℕ
left_aligned width text = text ++ blanks (width - length text)

-- a number in its column after a blank
unfoldable pub spaced_number : ℕ → ℕ → List ℕ
spaced_number width number = codes " " ++ right_aligned width number

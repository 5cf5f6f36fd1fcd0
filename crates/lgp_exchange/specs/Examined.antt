-- Part of the public promise: which words the lines of `ex -lt` of SIMH, and its commands `d -lt`,
-- stand for, and the first fault of a text that has another line.
use Rattle.std.specs.Prelude.{◌≡◌, ℕ, ◌+◌, ◌==◌, ◌&&◌, if◌then◌else◌, nat_lt, nat_eq, Option, Some}
use Rattle.std.specs.Prelude.{None, List, [], ◌∷◌, length, take, drop, codes, slice_index}
use Rattle.std.specs.Prelude.{slice_set, map}
use Rattle.std.specs.Char.{to_ascii_lowercase}
use Rattle.std.specs.List.{starts_with}
use Rattle.std.specs.Option.{option_map_or, option_or}
use Rattle.std.specs.Str.{byte}
use Rattle.bstr.specs.Text.{lines_of, without_terminator}
use Rattle.lgp_word.specs.Digits.{address_text, word_of_digits}
use Rattle.lgp_word.specs.Drum.{blank_words}
use Rattle.lgp_exchange.specs.declared.examined.ExaminedFault.{ExaminedFault}
use Rattle.lgp_exchange.specs.declared.examined.ExaminedFault.TheVariants.{Form, Order}

-- an address and a word, where both are there
abbrev pub both : Option ℕ → Option ℕ → Option (ℕ × ℕ)
both (Some address) (Some word) = Some (address, word)
both _ _ = None

-- the address and the word of two texts, the digits capital or small
abbrev pub cell_of : List ℕ → List ℕ → Option (ℕ × ℕ)
cell_of address digits =
    both (address_text address) (word_of_digits (map to_ascii_lowercase digits))

-- the address and the word of a line that `ex -lt` shows: `ttss:`, a tab and eight digits
unfoldable pub shown_cell : List ℕ → Option (ℕ × ℕ)
shown_cell line =
    if length line == 14 && slice_index line 4 == byte ":" && slice_index line 5 == 9
    then cell_of (take 4 line) (drop 6 line) else None

-- the address and the word of a command: `d -lt ttss` and eight digits
unfoldable pub given_cell : List ℕ → Option (ℕ × ℕ)
given_cell line =
    if length line == 19 && starts_with nat_eq line (codes "d -lt ")
    && slice_index line 10 == byte " "
    then cell_of (take 4 (drop 6 line)) (drop 11 line) else None

-- the address and the word of a line in form
unfoldable pub cell_in : List ℕ → Option (ℕ × ℕ)
cell_in line = option_or (shown_cell line) (given_cell line)

-- the lines of a text, without their line feeds and carriage returns before these
abbrev pub lines_in : List ℕ → List (List ℕ)
lines_in text = map without_terminator (lines_of text)

-- the fault of one line of this number, whose address may be `least` or above: first its form is
-- asked, and then its address
abbrev pub line_fault : ℕ → ℕ → Option (ℕ × ℕ) → Option ExaminedFault
line_fault number least None = Some (Form number)
line_fault number least (Some cell) = if nat_lt cell.0 least then Some (Order number) else None

-- the first fault of some lines, from a number and a least address on; the least address that may
-- come after a line is the one after its own
unfoldable pub fault_from : ℕ → ℕ → List (List ℕ) → Option ExaminedFault
fault_from number least [] = None
fault_from number least (line ∷ lines) =
    option_or (line_fault number least (cell_in line))
    (fault_from (number + 1) (option_map_or (λ cell. cell.0 + 1) (cell_in line) 0) lines)

-- the first fault of a text, whose lines are counted from 1
abbrev pub first_fault : List ℕ → Option ExaminedFault
first_fault text = fault_from 1 0 (lines_in text)

-- the words after those of a line are put
abbrev pub words_with : List ℕ → Option (ℕ × ℕ) → List ℕ
words_with words None = words
words_with words (Some cell) = slice_set words cell.0 cell.1

-- the words after those of some lines are put, one after another
unfoldable pub words_after : List ℕ → List (List ℕ) → List ℕ
words_after words [] = words
words_after words (line ∷ lines) = words_after (words_with words (cell_in line)) lines

-- the words of a drum that a text stands for
abbrev pub words_of : List ℕ → List ℕ
words_of text = words_after blank_words (lines_in text)

-- a text that has no fault and stands for these words
pub record IsReadAs (text words : List ℕ) : Type 0 where
  pub no_fault : first_fault text ≡ None
  pub words_are : words_of text ≡ words

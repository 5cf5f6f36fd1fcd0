-- Part of the public promise: the text of a drum's words, and the first fault of a text that is no
-- drum's. This project's own choice.
use Rattle.std.specs.Prelude.{◌≡◌, ℕ, ◌+◌, ◌++◌, ◌==◌, ◌&&◌, nat_lt}
use Rattle.std.specs.Prelude.{Bool, not, if◌then◌else◌, Option, Some, None}
use Rattle.std.specs.Prelude.{List, [], ◌∷◌, length, take, drop, codes, slice_index, All}
use Rattle.std.specs.Option.{option_map_or, option_or}
use Rattle.bstr.specs.Text.{lines_of}
use Rattle.lgp_word.specs.Digits.{digits_of, address_digits, address_text, word_of_digits}
use Rattle.lgp_word.specs.Word.{IsWord}
use Rattle.lgp_word.specs.Drum.{drum_size}
use Rattle.lgp_listing.specs.declared.reading.DumpFault.{DumpFault}
use Rattle.lgp_listing.specs.declared.reading.DumpFault.TheVariants.{Form, Order}

-- what the words of a drum are
pub record IsDrum (words : List ℕ) : Type 0 where
  pub size : length words ≡ drum_size
  pub words_are : All IsWord words

-- ---- the dump of some words

-- the line of an address and its word
abbrev pub cell_line : ℕ → ℕ → List ℕ
cell_line address word = address_digits address ++ codes " " ++ digits_of word ++ codes "\n"

-- whether a word is not zero
abbrev pub is_used : ℕ → Bool
is_used word = not (word == 0)

-- words of zeros have no line
abbrev pub word_line : ℕ → ℕ → List ℕ
word_line address word = if word == 0 then [] else cell_line address word

-- the lines of the words from an address on
abbrev pub dump_from : ℕ → List ℕ → List ℕ
dump_from address [] = []
dump_from address (word ∷ words) = word_line address word ++ dump_from (address + 1) words

-- the dump of a drum's words
unfoldable pub dump_of : List ℕ → List ℕ
dump_of words = dump_from 0 words

-- ---- the first fault of a text

-- an address and a word, where both are there and the word is not zero
abbrev pub used_cell : Option ℕ → Option ℕ → Option (ℕ × ℕ)
used_cell (Some address) (Some word) = if word == 0 then None else Some (address, word)
used_cell _ _ = None

-- the address and the word of a line in form: `ttss`, a space, the eight digits of a word that is
-- not zero, and a line feed
unfoldable pub cell_in : List ℕ → Option (ℕ × ℕ)
cell_in line =
    if length line == 14 && slice_index line 4 == 32 && slice_index line 13 == 10
    then used_cell (address_text (take 4 line)) (word_of_digits (take 8 (drop 5 line))) else None

-- the fault of one line of this number, whose address may be `least` or above: first its form is
-- asked, and then its address
abbrev pub line_fault : ℕ → ℕ → Option (ℕ × ℕ) → Option DumpFault
line_fault number least None = Some (Form number)
line_fault number least (Some cell) = if nat_lt cell.0 least then Some (Order number) else None

-- the first fault of some lines, from a number and a least address on; the least address that may
-- come after a line is the one after its own
unfoldable pub fault_from : ℕ → ℕ → List (List ℕ) → Option DumpFault
fault_from number least [] = None
fault_from number least (line ∷ lines) =
    option_or (line_fault number least (cell_in line))
    (fault_from (number + 1) (option_map_or (λ cell. cell.0 + 1) (cell_in line) 0) lines)

-- the first fault of a text, whose lines keep their line feeds and are counted from 1
abbrev pub first_fault : List ℕ → Option DumpFault
first_fault text = fault_from 1 0 (lines_of text)

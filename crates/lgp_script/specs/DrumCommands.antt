-- Part of the public promise: the script language, what is answered to the commands of the drum.
use Rattle.std.specs.Prelude.{ℕ, zero, suc, ◌+◌, ◌++◌, List, [], count_by, codes}
use Rattle.std.specs.Prelude.{decimal}
use Rattle.lgp_word.specs.Digits.{address_digits}
use Rattle.lgp_listing.specs.Disassembly.{disassembly}
use Rattle.lgp_listing.specs.Dump.{dump_of, is_used}
use Rattle.lgp_table.specs.State.{State, word_at}

-- ---- words, show

-- the line of a word by its disassembly; that by its digits is the dump's
unfoldable pub order_line : ℕ → ℕ → List ℕ
order_line address word = address_digits address ++ (codes " " ++ (disassembly word ++ codes "\n"))

-- the lines of a given number of words from an address on
abbrev pub lines_text : (ℕ → ℕ → List ℕ) → State → ℕ → ℕ → List ℕ
lines_text line s address zero = []
lines_text line s address (suc count) =
    lines_text line s address count ++ line (address + count) (word_at s.core (address + count))

-- ---- dump

-- how many words are not zero, and the dump of the words, which has a line for each of them
unfoldable pub dump_text : List ℕ → List ℕ
dump_text words =
    codes "dump " ++ (decimal (count_by is_used words) ++ (codes "\n" ++ dump_of words))

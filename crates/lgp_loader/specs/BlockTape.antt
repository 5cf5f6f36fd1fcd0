-- Part of the public promise. A tape of blocks: for each block the order that stores its first
-- word, its count, and its words; then the end word. A count is negative: minus one for each
-- word of the block. It reaches zero after the last of them.
use Rattle.std.specs.Prelude.{ℕ, ◌-◌, ◌*◌, ◌^◌, List, [], ◌∷◌, ◌++◌, Option, length, map}
use Rattle.std.specs.List.{concat}
use Rattle.lgp_loader.specs.BlockPlaces.{one_up}
use Rattle.lgp_loader.specs.LoaderTape.{carriage_return, control_word, end_word, stopped_word}

-- the place of the first cell
abbrev pub first_place : List (ℕ × ℕ) → ℕ
first_place [] = 0
first_place (cell ∷ _) = cell.0

-- the count of a given number of words that are left
abbrev pub count_word : ℕ → ℕ
count_word words = 2 ^ 32 - one_up * words

abbrev pub word_of_cell : ℕ × ℕ → List ℕ
word_of_cell cell = stopped_word cell.1

abbrev pub block_codes : List (ℕ × ℕ) → List ℕ
block_codes cells =
    stopped_word (control_word (first_place cells))
    ++ (stopped_word (count_word (length cells))
    ++ (concat (map word_of_cell cells) ++ carriage_return ∷ []))

-- the tape of blocks and a start
unfoldable pub block_tape_codes : List (List (ℕ × ℕ)) → Option ℕ → List ℕ
block_tape_codes blocks start = concat (map block_codes blocks) ++ stopped_word (end_word start)

-- How long the tapes are.
use Rattle.std.proofs.Common.{◌≡◌, ℕ, ◌+◌, ◌*◌, ◌≤◌, refl, ◌∙◌, arith, List, [], ◌∷◌, ◌++◌, Option, length, length-append, map}
use Rattle.std.specs.List.{concat}
use Rattle.lgp_flexo.specs.TapeText.{tape_limit}
use Rattle.lgp_flexo.specs.WordCodes.{four_digit_codes, word_codes}
use Rattle.lgp_assembler.specs.Parts.{ImageParts}
use Rattle.lgp_loader.specs.BlockTape.{block_codes, block_tape_codes, count_word, first_place, word_of_cell}
use Rattle.lgp_loader.specs.Cutting.{cells_of}
use Rattle.lgp_loader.specs.LoaderTape.{carriage_return, control_word, end_word, stopped_word}
use Rattle.lgp_loader.specs.SingleTape.{cell_codes, single_tape_codes}

word_length : (word : ℕ) → length (stopped_word word) ≡ 9
unfolding word_codes four_digit_codes
word_length word = refl

-- the tape of single cells
cell_length : (cell : ℕ × ℕ) → length (cell_codes cell) ≡ 19
unfolding word_codes four_digit_codes
cell_length cell = refl

cells_length : (cells : List (ℕ × ℕ)) → length (concat (map cell_codes cells)) ≡ 19 * length cells
cells_length [] = refl
cells_length (cell ∷ cells) =
    let first = cell_length cell in
    let others = cells_length cells in
    length-append (cell_codes cell) (concat (map cell_codes cells)) ∙ omega arith

pub short_single_tape : (image : ImageParts) → length image.cells ≤ 4096 → length (single_tape_codes image) ≤ tape_limit
unfolding single_tape_codes
short_single_tape image few =
    let cells = cells_length image.cells in
    let end = word_length (end_word image.start) in
    let all = length-append (concat (map cell_codes image.cells)) (stopped_word (end_word image.start)) in
    omega (arith, all, cells, end, few)

-- the tape of blocks
words_length : (cells : List (ℕ × ℕ)) → length (concat (map word_of_cell cells)) ≡ 9 * length cells
words_length [] = refl
words_length (cell ∷ cells) =
    let first = word_length cell.1 in
    let others = words_length cells in
    length-append (word_of_cell cell) (concat (map word_of_cell cells)) ∙ omega arith

block_length : (block : List (ℕ × ℕ)) → length (block_codes block) ≡ 19 + 9 * length block
block_length block =
    let control = word_length (control_word (first_place block)) in
    let count = word_length (count_word (length block)) in
    let words = words_length block in
    let codes : List ℕ = concat (map word_of_cell block) in
    let end : List ℕ = carriage_return ∷ [] in
    let parts = length-append (stopped_word (control_word (first_place block))) (stopped_word (count_word (length block)) ++ (codes ++ end)) in
    let more = length-append (stopped_word (count_word (length block))) (codes ++ end) in
    let last = length-append codes end in
    omega (arith, control, count, words, parts, more, last)

blocks_length : (blocks : List (List (ℕ × ℕ))) → length (concat (map block_codes blocks)) ≡ 19 * length blocks + 9 * length (cells_of blocks)
blocks_length [] = refl
blocks_length (block ∷ blocks) =
    let first = block_length block in
    let others = blocks_length blocks in
    let cells = length-append block (cells_of blocks) in
    let all = length-append (block_codes block) (concat (map block_codes blocks)) in
    omega (arith, first, others, cells, all)

pub short_block_tape : (blocks : List (List (ℕ × ℕ))) (start : Option ℕ) → length blocks ≤ 4096 → length (cells_of blocks) ≤ 4096
    → length (block_tape_codes blocks start) ≤ tape_limit
unfolding block_tape_codes
short_block_tape blocks start few short =
    let all = length-append (concat (map block_codes blocks)) (stopped_word (end_word start)) in
    omega (arith, all, blocks_length blocks, word_length (end_word start), few, short)

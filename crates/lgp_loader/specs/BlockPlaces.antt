-- Part of the public promise. The loader of 22 words (this project's own), for tapes of blocks. It
-- stores a given number of words at places one after another, and counts the address up inside the
-- order that stores them.
use Rattle.std.specs.Prelude.{ℕ, ◌+◌, List, [], ◌∷◌}
use Rattle.lgp_word.specs.declared.order.Op.TheVariants.{B, I, P, U, T, H, A}
use Rattle.lgp_word.specs.Order.{plain_order}
use Rattle.lgp_assembler.specs.Parts.{loader_base}

-- where a word of the block is read
abbrev pub next_word : ℕ
next_word = loader_base + 7

-- the cell in which the order that stores the next word is put, performed and counted up
abbrev pub block_store_cell : ℕ
block_store_cell = loader_base + 9

-- where the loader goes with the end word, and the cell in which the end word is put, and performed
abbrev pub block_end_place : ℕ
block_end_place = loader_base + 18

abbrev pub block_end_cell : ℕ
block_end_cell = loader_base + 19

-- the word that counts one up, in an address and in the count
abbrev pub one_up : ℕ
one_up = 4

abbrev pub one_up_place : ℕ
one_up_place = loader_base + 20

-- the cell of the count, which is negative while words of the block are left
abbrev pub count_cell : ℕ
count_cell = loader_base + 21

-- the 22 words
abbrev pub block_loader_words : List ℕ
block_loader_words =
    plain_order P 0 ∷ plain_order I 0 ∷ plain_order T block_end_place
    ∷ plain_order H block_store_cell ∷ plain_order P 0 ∷ plain_order I 0 ∷ plain_order H count_cell
    ∷ plain_order P 0 ∷ plain_order I 0 ∷ 0
    ∷ plain_order B block_store_cell ∷ plain_order A one_up_place ∷ plain_order H block_store_cell
    ∷ plain_order B count_cell ∷ plain_order A one_up_place ∷ plain_order H count_cell
    ∷ plain_order T next_word ∷ plain_order U loader_base ∷ plain_order H block_end_cell
    ∷ 0 ∷ one_up ∷ 0 ∷ []

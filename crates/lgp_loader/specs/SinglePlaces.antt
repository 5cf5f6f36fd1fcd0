-- Part of the public promise. The loader of ten words (this project's own), for tapes of single
-- cells. It performs each cell of a tape as an order that it has just stored.
use Rattle.std.specs.Prelude.{ℕ, ◌+◌, List, [], ◌∷◌}
use Rattle.lgp_word.specs.declared.order.Op.TheVariants.{I, P, U, T, H}
use Rattle.lgp_word.specs.Order.{plain_order}
use Rattle.lgp_assembler.specs.Parts.{loader_base}

-- the cell in which the order that stores a program word is put together, and performed
abbrev pub single_store_cell : ℕ
single_store_cell = loader_base + 6

-- where the loader goes with the end word, and the cell in which the end word is put, and performed
abbrev pub single_end_place : ℕ
single_end_place = loader_base + 8

abbrev pub single_end_cell : ℕ
single_end_cell = loader_base + 9

-- the ten words: two inputs, of a control word and of the word itself, each stored where it belongs
abbrev pub single_loader_words : List ℕ
single_loader_words =
    plain_order P 0 ∷ plain_order I 0 ∷ plain_order T single_end_place
    ∷ plain_order H single_store_cell ∷ plain_order P 0 ∷ plain_order I 0 ∷ 0
    ∷ plain_order U loader_base
    ∷ plain_order H single_end_cell ∷ 0 ∷ []

-- Part of the public promise. Loading by blocks: the loader of 22 words reads a tape of blocks.
-- What that leaves.
use Rattle.std.specs.Prelude.{ℕ, ◌+◌, ◌*◌, List, [], ◌∷◌, Option, length, slice_set}
use Rattle.lgp_table.specs.State.{State, core_of}
use Rattle.lgp_keyin.specs.Keyed.{words_from}
use Rattle.lgp_assembler.specs.Parts.{ImageParts}
use Rattle.lgp_loader.specs.BlockPlaces.{block_end_cell, block_loader_words, block_store_cell}
use Rattle.lgp_loader.specs.BlockPlaces.{count_cell}
use Rattle.lgp_loader.specs.BlockTape.{block_tape_codes, first_place}
use Rattle.lgp_loader.specs.Cutting.{cells_of, longest_blocks, pieces_of}
use Rattle.lgp_loader.specs.LoaderTape.{control_word, end_word}
use Rattle.lgp_loader.specs.Loading.{TapeLoad, overlay, panel_after_load, read_tape}
use Rattle.lgp_assembler.specs.Parts.{loader_base}

-- how many orders the loader performs: ten for each word, eight for each block, and five for the
-- end word
abbrev pub orders_for : ℕ → ℕ → ℕ
orders_for words blocks = 10 * words + 8 * blocks + 5

-- blocks and a start
abbrev pub block_load : List (List (ℕ × ℕ)) → Option ℕ → TapeLoad
block_load blocks start = record {
  loader = block_loader_words;
  codes = block_tape_codes blocks start;
  orders = orders_for (length (cells_of blocks)) (length blocks);
}

-- an image in the longest blocks, and in blocks of a given number of cells each
abbrev pub longest_load : ImageParts → TapeLoad
longest_load image = block_load (longest_blocks image.cells) image.start

abbrev pub cut_load : ImageParts → List ℕ → TapeLoad
cut_load image counts = block_load (pieces_of counts image.cells) image.start

-- what lies in the store cell at last: the order that would store a word after the last block
unfoldable pub store_after : ℕ → List (List (ℕ × ℕ)) → ℕ
store_after store [] = store
store_after store (block ∷ blocks) =
    store_after (control_word (first_place block + length block)) blocks

-- the drum after loading: the program over what was there, the loader, and what it has put into its
-- three cells
abbrev pub words_after_blocks : List ℕ → List (List (ℕ × ℕ)) → Option ℕ → List ℕ
words_after_blocks words blocks start =
    slice_set (slice_set (slice_set
    (overlay (words_from words loader_base block_loader_words) (cells_of blocks))
    block_store_cell (store_after 0 blocks)) count_cell 0) block_end_cell (end_word start)

-- a state after loading, at some clock
abbrev pub left_by_blocks : State → List (List (ℕ × ℕ)) → Option ℕ → ℕ → State
left_by_blocks s blocks start clock = record {
  core = core_of (panel_after_load s.core.panel block_end_cell start)
      (words_after_blocks s.core.words blocks start) (read_tape (block_tape_codes blocks start));
  printed = s.printed;
  clock = clock;
}

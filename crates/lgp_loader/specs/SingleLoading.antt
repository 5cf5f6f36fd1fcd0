-- Part of the public promise. Loading cell by cell: the loader of ten words reads a tape of single
-- cells. What that leaves.
use Rattle.std.specs.Prelude.{ℕ, ◌+◌, ◌*◌, List, fold, length, slice_set}
use Rattle.lgp_table.specs.State.{State, core_of}
use Rattle.lgp_keyin.specs.Keyed.{words_from}
use Rattle.lgp_assembler.specs.Parts.{ImageParts}
use Rattle.lgp_loader.specs.LoaderTape.{control_word, end_word}
use Rattle.lgp_loader.specs.Loading.{TapeLoad, overlay, panel_after_load, read_tape}
use Rattle.lgp_assembler.specs.Parts.{loader_base}
use Rattle.lgp_loader.specs.SinglePlaces.{single_end_cell, single_loader_words, single_store_cell}
use Rattle.lgp_loader.specs.SingleTape.{single_tape_codes}

-- an image loaded cell by cell: eight orders for each cell, and five for the end word
abbrev pub single_load : ImageParts → TapeLoad
single_load image = record {
  loader = single_loader_words;
  codes = single_tape_codes image;
  orders = 8 * length image.cells + 5;
}

-- what lies in the loader's store cell at last: the order that stored the last cell
abbrev pub last_control : List (ℕ × ℕ) → ℕ
last_control cells = fold (λ _ cell. control_word cell.0) 0 cells

-- the drum after loading: the program over what was there, the loader, and what it has put into its
-- own two cells
abbrev pub words_after_single : List ℕ → ImageParts → List ℕ
words_after_single words image =
    slice_set (slice_set (overlay (words_from words loader_base single_loader_words) image.cells)
    single_store_cell (last_control image.cells)) single_end_cell (end_word image.start)

-- a state after loading, at some clock
abbrev pub left_by_single : State → ImageParts → ℕ → State
left_by_single s image clock = record {
  core = core_of (panel_after_load s.core.panel single_end_cell image.start)
      (words_after_single s.core.words image) (read_tape (single_tape_codes image));
  printed = s.printed;
  clock = clock;
}

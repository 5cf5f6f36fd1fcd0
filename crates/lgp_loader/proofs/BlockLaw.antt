-- What loading by blocks leaves.
use Rattle.std.proofs.Common.{◌≡◌, ℕ, ◌+◌, ◌<◌, ◌≤◌, true, refl, sym, ap, ◌∙◌, subst, arith, List, [], Option, length, slice_index, slice_set}
use Rattle.std.specs.Prelude.{IfSome}
use Rattle.std.proofs.lemmas.List.{set-get_or}
use Rattle.lgp_word.specs.Address.{IsAddress}
use Rattle.lgp_table.specs.State.{State}
use Rattle.lgp_keyin.specs.KeyIn.{jump_order}
use Rattle.lgp_keyin.proofs.Placed.{words_lie}
use Rattle.lgp_assembler.specs.Parts.{AreProgramCells}
use Rattle.lgp_loader.specs.BlockLoading.{block_load, left_by_blocks}
use Rattle.lgp_loader.specs.BlockPlaces.{block_loader_words, block_store_cell, count_cell}
use Rattle.lgp_loader.specs.BlockTape.{block_tape_codes}
use Rattle.lgp_loader.specs.Cutting.{are_blocks, cells_of}
use Rattle.lgp_loader.specs.Loading.{IsLoader, begun, loaded}
use Rattle.lgp_assembler.specs.Parts.{loader_base}
use Rattle.lgp_loader.proofs.Begun.{all_words, is_word, left_by_run, length_from, runs_when_begun, with_words}
use Rattle.lgp_loader.proofs.BlockCells.{HasBlockLoader, with_cells}
use Rattle.lgp_loader.proofs.Blocks.{through_blocks}
use Rattle.lgp_loader.proofs.Cells.{nothing_skipped}
use Rattle.lgp_loader.proofs.Orders.{core_at, off}
use Rattle.lgp_loader.proofs.Ready.{loading_time}
use Rattle.lgp_loader.proofs.Runs.{Runs}

pub block_is_loader : IsLoader block_loader_words
unfolding is_word
block_is_loader = (all_words block_loader_words refl, omega arith, omega arith)

loader_lies : (drum : List ℕ) (k : ℕ) → length drum ≡ 4096 → k < 22 → slice_index (with_words drum block_loader_words) (loader_base + k) ≡ slice_index block_loader_words k
loader_lies drum k long within = words_lie block_loader_words drum loader_base k (omega (arith, long)) within

has_loader : (drum : List ℕ) → length drum ≡ 4096 → HasBlockLoader (with_words drum block_loader_words)
has_loader drum long = record {
  drum = length_from block_loader_words _ loader_base ∙ long;
  fixed = λ k within store end count. loader_lies _ k long within;
}

cells_empty : (drum : List ℕ) → length drum ≡ 4096 → with_cells (with_words drum block_loader_words) 0 0 ≡ with_words drum block_loader_words
cells_empty drum long =
    let store_is : slice_index (with_words drum block_loader_words) block_store_cell ≡ 0 = loader_lies _ 9 long (omega arith) in
    let count_is : slice_index (with_words drum block_loader_words) count_cell ≡ 0 = loader_lies _ 21 long (omega arith) in
    let store_same : slice_set (with_words drum block_loader_words) block_store_cell 0 ≡ with_words drum block_loader_words =
    ap (λ word. slice_set (with_words drum block_loader_words) block_store_cell word) (sym store_is) ∙ set-get_or (with_words drum block_loader_words) block_store_cell 0 in
    let count_same : slice_set (with_words drum block_loader_words) count_cell 0 ≡ with_words drum block_loader_words =
    ap (λ word. slice_set (with_words drum block_loader_words) count_cell word) (sym count_is) ∙ set-get_or (with_words drum block_loader_words) count_cell 0 in
    ap (λ ws. slice_set ws count_cell 0) store_same ∙ count_same

pub blocks_run : (s : State) (blocks : List (List (ℕ × ℕ))) (start : Option ℕ) → length s.core.words ≡ 4096
    → are_blocks blocks ≡ true → AreProgramCells (cells_of blocks) → length (cells_of blocks) ≤ 4096 → IfSome start IsAddress
    → Runs (block_load blocks start).orders (begun s (block_load blocks start)).core (left_by_blocks s blocks start 0).core
unfolding block_tape_codes
blocks_run s blocks start long are program few is =
    let load = block_load blocks start in
    let through = through_blocks s.core.panel.switches (jump_order loader_base) (jump_order loader_base) _ [] [] 0 blocks _
    (has_loader _ long) nothing_skipped are program few is in
    let last = (left_by_blocks s blocks start 0).core in
    runs_when_begun s _ _ block_is_loader
    (subst (λ ws. Runs load.orders (core_at s.core.panel.switches loader_base (jump_order loader_base) (jump_order loader_base) ws (off [] (block_tape_codes blocks start))) last)
    (cells_empty _ long) through)

pub blocks_leave : (s : State) (blocks : List (List (ℕ × ℕ))) (start : Option ℕ) → length s.core.words ≡ 4096
    → are_blocks blocks ≡ true → AreProgramCells (cells_of blocks) → length (cells_of blocks) ≤ 4096 → IfSome start IsAddress
    → loaded s (block_load blocks start) ≡ left_by_blocks s blocks start (loaded s (block_load blocks start)).clock
blocks_leave s blocks start long are program few is =
    left_by_run s _ _ block_is_loader (blocks_run s blocks _ long are program few is)

pub ruleset block_laws = (blocks_leave, loading_time)

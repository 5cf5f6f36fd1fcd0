-- The loads of an image: their orders are at work and print nothing, and their tapes are short.
use Rattle.std.proofs.Common.{◌≡◌, ℕ, ◌≤◌, true, sym, subst, arith, List, Option, length}
use Rattle.std.specs.Prelude.{IfSome}
use Rattle.lgp_word.specs.Address.{IsAddress}
use Rattle.lgp_table.specs.State.{State}
use Rattle.lgp_assembler.specs.Parts.{AreProgramCells, HaveOwnPlaces, ImageParts}
use Rattle.lgp_loader.specs.BlockLoading.{block_load, cut_load, left_by_blocks, longest_load, orders_for}
use Rattle.lgp_loader.specs.Cutting.{are_blocks, cells_of, is_cutting, longest_blocks}
use Rattle.lgp_loader.specs.LoadedOver.{IsLoadedOver}
use Rattle.lgp_loader.specs.Loading.{TapeLoad, load_with, loaded}
use Rattle.lgp_loader.specs.ReadyInside.{IsReady}
use Rattle.lgp_loader.specs.SingleLoading.{single_load}
use Rattle.lgp_loader.proofs.Begun.{calm_in_run}
use Rattle.lgp_loader.proofs.BlockLaw.{block_is_loader, blocks_run}
use Rattle.lgp_loader.proofs.Cuts.{as_many_pieces, longest_are_blocks, longest_have_cells, no_more_blocks, pieces_are_blocks, pieces_have_cells}
use Rattle.lgp_loader.proofs.Lengths.{short_block_tape, short_single_tape}
use Rattle.lgp_loader.proofs.Program.{blocks_over}
use Rattle.lgp_loader.proofs.SingleLaw.{single_is_loader, single_runs}

blocks_ready : (s : State) (blocks : List (List (ℕ × ℕ))) (start : Option ℕ) (cells : List (ℕ × ℕ)) → length s.core.words ≡ 4096
    → are_blocks blocks ≡ true → cells_of blocks ≡ cells → AreProgramCells cells → length cells ≤ 4096 → IfSome start IsAddress
    → IsReady s (block_load blocks start)
blocks_ready s blocks start cells long are same program few is =
    let few_cells : length (cells_of blocks) ≤ 4096 = subst (λ cells. length cells ≤ 4096) (sym same) few in
    let runs = blocks_run s blocks _ long are (subst AreProgramCells (sym same) program) few_cells is in
    record {
      fits = block_is_loader;
      some = omega arith;
      work = λ before less. let calm = calm_in_run s _ (left_by_blocks s blocks start 0).core runs _ less in calm.works;
      silent = λ before less. let calm = calm_in_run s _ (left_by_blocks s blocks start 0).core runs _ less in calm.silent;
      short = short_block_tape _ _ (let more = no_more_blocks blocks are in omega (arith, more, few_cells)) few_cells;
    }

pub longest_ready : (s : State) (image : ImageParts) → length s.core.words ≡ 4096 → AreProgramCells image.cells → length image.cells ≤ 4096 → IfSome image.start IsAddress
    → IsReady s (longest_load image)
longest_ready s image long program few is =
    blocks_ready s _ _ _ long (longest_are_blocks image.cells) (longest_have_cells _) program few is

pub cut_ready : (s : State) (image : ImageParts) (counts : List ℕ) → length s.core.words ≡ 4096 → is_cutting counts image.cells ≡ true
    → AreProgramCells image.cells → length image.cells ≤ 4096 → IfSome image.start IsAddress → IsReady s (cut_load image counts)
cut_ready s image counts long cut program few is =
    blocks_ready s _ _ _ long (pieces_are_blocks counts image.cells cut) (pieces_have_cells counts _ cut) program few is

pub single_ready : (s : State) (image : ImageParts) → length s.core.words ≡ 4096 → AreProgramCells image.cells → length image.cells ≤ 4096 → IfSome image.start IsAddress
    → IsReady s (single_load image)
single_ready s image long program few is =
    let runs = single_runs s _ long program is in
    record {
      fits = single_is_loader;
      some = omega arith;
      work = λ before less. let calm = calm_in_run s _ _ runs _ less in calm.works;
      silent = λ before less. let calm = calm_in_run s _ _ runs _ less in calm.silent;
      short = short_single_tape _ few;
    }

-- what they leave
cells_over : (s : State) (blocks : List (List (ℕ × ℕ))) (start : Option ℕ) (cells : List (ℕ × ℕ)) → length s.core.words ≡ 4096
    → are_blocks blocks ≡ true → cells_of blocks ≡ cells → AreProgramCells cells → HaveOwnPlaces cells → IfSome start IsAddress
    → IsLoadedOver 22 s.core.words (loaded s (block_load blocks start)).core.words cells
cells_over s blocks start cells long are same program own is =
    subst (IsLoadedOver 22 s.core.words (loaded s (block_load blocks start)).core.words) same
    (blocks_over s _ _ long are (subst AreProgramCells (sym same) program) (subst HaveOwnPlaces (sym same) own) is)

pub longest_over : (s : State) (image : ImageParts) → length s.core.words ≡ 4096 → AreProgramCells image.cells → HaveOwnPlaces image.cells → IfSome image.start IsAddress
    → IsLoadedOver 22 s.core.words (loaded s (longest_load image)).core.words image.cells
longest_over s image long program own is =
    cells_over s _ _ _ long (longest_are_blocks image.cells) (longest_have_cells _) program own is

pub cut_over : (s : State) (image : ImageParts) (counts : List ℕ) → length s.core.words ≡ 4096 → is_cutting counts image.cells ≡ true
    → AreProgramCells image.cells → HaveOwnPlaces image.cells → IfSome image.start IsAddress
    → IsLoadedOver 22 s.core.words (loaded s (cut_load image counts)).core.words image.cells
cut_over s image counts long cut program own is =
    cells_over s _ _ _ long (pieces_are_blocks counts image.cells cut) (pieces_have_cells counts _ cut) program own is

-- a load by its parts
pub same_load : (load : TapeLoad) (codes : List ℕ) (orders : ℕ) → codes ≡ load.codes → orders ≡ load.orders → load ≡ load_with load.loader codes orders
same_load load codes orders same_codes same_orders =
    grind arith

-- as many orders as are answered
pub longest_orders : (image : ImageParts) (cells : List (ℕ × ℕ)) (blocks orders : ℕ) → cells ≡ image.cells → blocks ≡ length (longest_blocks cells)
    → orders ≡ orders_for (length cells) blocks → orders ≡ (longest_load image).orders
longest_orders image cells blocks orders same count is =
    grind (arith, longest_have_cells)

pub cut_orders : (image : ImageParts) (counts : List ℕ) (cells : List (ℕ × ℕ)) (orders : ℕ) → is_cutting counts image.cells ≡ true → cells ≡ image.cells
    → orders ≡ orders_for (length cells) (length counts) → orders ≡ (cut_load image counts).orders
cut_orders image counts cells orders cut same is =
    grind (arith, pieces_have_cells, as_many_pieces)

pub few_counts : (counts : List ℕ) (cells : List (ℕ × ℕ)) → is_cutting counts cells ≡ true → length counts ≤ length cells
few_counts counts cells cut =
    grind (arith, no_more_blocks, pieces_are_blocks, as_many_pieces, pieces_have_cells)

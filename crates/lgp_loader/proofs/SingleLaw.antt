-- What loading cell by cell leaves.
use Rattle.std.proofs.Common.{◌≡◌, ◌≢◌, ℕ, ◌+◌, ◌<◌, false, refl, sym, ap, ◌∙◌, subst, arith, List, [], ◌∷◌, fold, length, slice_index, slice_set}
use Rattle.std.specs.Prelude.{IfSome}
use Rattle.std.proofs.lemmas.List.{set-get_or, set-set, set_comm}
use Rattle.std.proofs.lemmas.Bool.Decides.{nat_tests}
use Rattle.lgp_word.specs.Address.{IsAddress}
use Rattle.lgp_table.specs.State.{State}
use Rattle.lgp_keyin.proofs.Placed.{words_lie}
use Rattle.lgp_assembler.specs.Parts.{AreProgramCells, ImageParts, is_loaders}
use Rattle.lgp_loader.specs.LoaderTape.{control_word, end_word}
use Rattle.lgp_loader.specs.Loading.{IsLoader, begun, loaded, overlay}
use Rattle.lgp_assembler.specs.Parts.{loader_base}
use Rattle.lgp_loader.specs.SingleLoading.{last_control, left_by_single, single_load}
use Rattle.lgp_loader.specs.SinglePlaces.{single_end_cell, single_loader_words, single_store_cell}
use Rattle.lgp_loader.specs.SingleTape.{single_tape_codes}
use Rattle.lgp_loader.proofs.Begun.{all_words, first_core, is_word, left_by_run, length_from, runs_when_begun, with_words}
use Rattle.lgp_loader.proofs.Cells.{HasLoader, nothing_skipped}
use Rattle.lgp_loader.proofs.Runs.{Runs}
use Rattle.lgp_loader.proofs.Through.{final_core, through_tape, words_after_cell, words_after_cells}

pub single_is_loader : IsLoader single_loader_words
unfolding is_word
single_is_loader = (all_words single_loader_words refl, omega arith, omega arith)

apart_from_store : (place : ℕ) → is_loaders place ≡ false → single_store_cell ≢ place
apart_from_store place free same = grind (arith, nat_tests)

-- what the store cell holds at last
abbrev control_after : ℕ → List (ℕ × ℕ) → ℕ
control_after control cells = fold (λ _ cell. control_word cell.0) control cells

cells_overlaid : (cells : List (ℕ × ℕ)) (words : List ℕ) (control : ℕ) → AreProgramCells cells
    → words_after_cells (slice_set words single_store_cell control) cells ≡ slice_set (overlay words cells) single_store_cell (control_after control cells)
unfolding words_after_cells
cells_overlaid [] words control are = refl
cells_overlaid ((place, word) ∷ cells) words control ((within, free, is), others) =
    let new = control_word place in
    let here : words_after_cell (slice_set words single_store_cell control) place word ≡ slice_set (slice_set words place word) single_store_cell new =
    ap (λ ws. slice_set ws place word) (set-set words single_store_cell control new)
    ∙ set_comm words single_store_cell place new word (apart_from_store _ free) in
    ap (λ ws. words_after_cells ws cells) here ∙ cells_overlaid cells (slice_set words place word) new others

loader_lies : (drum : List ℕ) (k : ℕ) → length drum ≡ 4096 → k < 10 → slice_index (with_words drum single_loader_words) (loader_base + k) ≡ slice_index single_loader_words k
loader_lies drum k long within = words_lie single_loader_words drum loader_base k (omega (arith, long)) within

has_loader : (drum : List ℕ) → length drum ≡ 4096 → HasLoader (with_words drum single_loader_words)
has_loader drum long = record {
  drum = length_from single_loader_words _ loader_base ∙ long;
  fixed = λ k within six nine. loader_lies _ k long within;
}

words_at_last : (drum : List ℕ) (cells : List (ℕ × ℕ)) → length drum ≡ 4096 → AreProgramCells cells
    → words_after_cells (with_words drum single_loader_words) cells ≡ slice_set (overlay (with_words drum single_loader_words) cells) single_store_cell (last_control cells)
words_at_last drum cells long are =
    let zero_there : slice_index (with_words drum single_loader_words) single_store_cell ≡ 0 = loader_lies _ 6 long (omega arith) in
    let same : with_words drum single_loader_words ≡ slice_set (with_words drum single_loader_words) single_store_cell 0 =
    sym (ap (λ word. slice_set (with_words drum single_loader_words) single_store_cell word) (sym zero_there) ∙ set-get_or (with_words drum single_loader_words) single_store_cell 0) in
    ap (λ ws. words_after_cells ws cells) same ∙ cells_overlaid _ _ 0 are

pub single_runs : (s : State) (image : ImageParts) → length s.core.words ≡ 4096 → AreProgramCells image.cells → IfSome image.start IsAddress
    → Runs (single_load image).orders (begun s (single_load image)).core (left_by_single s image 0).core
unfolding single_tape_codes
single_runs s image long are is =
    let load = single_load image in
    let through = through_tape s.core.panel.switches _ _ _ [] [] _ _
    (has_loader _ long) nothing_skipped are is in
    let last = words_at_last _ _ long are in
    runs_when_begun s _ _ single_is_loader
    (subst (λ ws. Runs load.orders (first_core s load)
    (final_core s.core.panel.switches image.start (slice_set ws single_end_cell (end_word image.start)) (single_tape_codes image))) last through)

pub single_leaves : (s : State) (image : ImageParts) → length s.core.words ≡ 4096 → AreProgramCells image.cells → IfSome image.start IsAddress
    → loaded s (single_load image) ≡ left_by_single s image (loaded s (single_load image)).clock
single_leaves s image long are is =
    left_by_run s _ _ single_is_loader (single_runs s _ long are is)

pub ruleset single_loading_laws = (single_leaves)

-- The loader's way through a tape: eight orders for a cell, five for the end word.
use Rattle.std.proofs.Common.{◌≡◌, ◌≢◌, ℕ, suc, ◌+◌, ◌/◌, ◌%◌, ◌<◌, false, refl, sym, ◌∙◌, subst, arith, List, [], ◌∷◌, ◌++◌, filter, length, slice_index, slice_set}
use Rattle.std.specs.List.{list_any}
use Rattle.std.proofs.lemmas.Bool.Decides.{nat_tests}
use Rattle.std.proofs.lemmas.List.{get_or-set_other, get_or-set_same, length-set}
use Rattle.std.proofs.lemmas.List.Elements.{filter-append}
use Rattle.std.proofs.lemmas.List.Folds.{list_any-append}
use Rattle.lgp_word.specs.Order.{op_of, plain_order, sign_of}
use Rattle.lgp_word.specs.Word.{IsWord}
use Rattle.lgp_word.specs.declared.order.Op.TheVariants.{I, P, U, T, H, C}
use Rattle.lgp_flexo.specs.Code.{is_stop, stop_code}
use Rattle.lgp_flexo.specs.Input.{enters}
use Rattle.lgp_flexo.specs.WordCodes.{word_codes}
use Rattle.lgp_flexo.proofs.WordCodes.{word_no_stop, word_unfiltered}
use Rattle.lgp_table.specs.State.{Core}
use Rattle.lgp_table.specs.declared.panel.Switches.{Switches}
use Rattle.lgp_assembler.specs.Parts.{is_loaders}
use Rattle.lgp_loader.specs.LoaderTape.{carriage_return, control_word}
use Rattle.lgp_assembler.specs.Parts.{loader_base}
use Rattle.lgp_loader.specs.SinglePlaces.{single_end_cell, single_end_place, single_loader_words, single_store_cell}
use Rattle.lgp_loader.proofs.Orders.{Fetches, Leads, core_at, off, on, reader_starts, word_read}
use Rattle.lgp_loader.proofs.Runs.{Runs, one_then}

-- the loader lies on the drum, but for its two cells
pub record HasLoader (words : List ℕ) : Type 0 where
  pub drum : length words ≡ 4096
  pub fixed : (k : ℕ) → k < 10 → k ≢ 6 → k ≢ 9 → slice_index words (loader_base + k) ≡ slice_index single_loader_words k

-- a place that the loader reads orders from, other than its two cells
abbrev pub IsElsewhere : ℕ → Type 0
IsElsewhere place = (k : ℕ) → k < 10 → k ≢ 6 → k ≢ 9 → place ≢ loader_base + k

-- a word put elsewhere
pub loader_stays : (words : List ℕ) (place word : ℕ) → HasLoader words → IsElsewhere place → HasLoader (slice_set words place word)
loader_stays words place word has elsewhere = record {
  drum = length-set words place word ∙ has.drum;
  fixed = λ k within six nine. get_or-set_other words place (loader_base + k) word 0 (λ same. elsewhere k within six nine (sym same)) ∙ has.fixed k within six nine;
}

pub store_cell_elsewhere : IsElsewhere single_store_cell
store_cell_elsewhere k within six nine same = six (omega (arith, same))

pub end_cell_elsewhere : IsElsewhere single_end_cell
end_cell_elsewhere k within six nine same = nine (omega (arith, same))

pub program_elsewhere : (place : ℕ) → is_loaders place ≡ false → IsElsewhere place
program_elsewhere place free k within six nine same = grind (arith, nat_tests)

pub fetch_0 : (words : List ℕ) → HasLoader words → Fetches words loader_base (plain_order P 0) P 0
unfolding op_of
fetch_0 words has = grind arith

pub fetch_1 : (words : List ℕ) → HasLoader words → Fetches words (loader_base + 1) (plain_order I 0) I 0
unfolding op_of
fetch_1 words has = record { here = has.fixed 1 (omega arith) (omega arith) (omega arith); is_op = refl; is_at = refl }

pub fetch_2 : (words : List ℕ) → HasLoader words → Fetches words (loader_base + 2) (plain_order T single_end_place) T single_end_place
unfolding op_of
fetch_2 words has = record { here = has.fixed 2 (omega arith) (omega arith) (omega arith); is_op = refl; is_at = refl }

pub fetch_3 : (words : List ℕ) → HasLoader words → Fetches words (loader_base + 3) (plain_order H single_store_cell) H single_store_cell
unfolding op_of
fetch_3 words has = record { here = has.fixed 3 (omega arith) (omega arith) (omega arith); is_op = refl; is_at = refl }

pub fetch_4 : (words : List ℕ) → HasLoader words → Fetches words (loader_base + 4) (plain_order P 0) P 0
unfolding op_of
fetch_4 words has = record { here = has.fixed 4 (omega arith) (omega arith) (omega arith); is_op = refl; is_at = refl }

pub fetch_5 : (words : List ℕ) → HasLoader words → Fetches words (loader_base + 5) (plain_order I 0) I 0
unfolding op_of
fetch_5 words has = record { here = has.fixed 5 (omega arith) (omega arith) (omega arith); is_op = refl; is_at = refl }

pub fetch_7 : (words : List ℕ) → HasLoader words → Fetches words (loader_base + 7) (plain_order U loader_base) U loader_base
unfolding op_of
fetch_7 words has = record { here = has.fixed 7 (omega arith) (omega arith) (omega arith); is_op = refl; is_at = refl }

pub fetch_8 : (words : List ℕ) → HasLoader words → Fetches words single_end_place (plain_order H single_end_cell) H single_end_cell
unfolding op_of
fetch_8 words has = record { here = has.fixed 8 (omega arith) (omega arith) (omega arith); is_op = refl; is_at = refl }

-- the order in the store cell
pub fetch_store : (words : List ℕ) (place : ℕ) → HasLoader words → place < 4096 → Fetches (slice_set words single_store_cell (control_word place)) single_store_cell (control_word place) C place
unfolding op_of
fetch_store words place has within = record {
  here = get_or-set_same words single_store_cell (control_word place) 0 (omega arith);
  is_op = let number : control_word place / 65536 % 16 ≡ 13 = omega arith in rw number refl;
  is_at = omega arith;
}

pub control_is_word : (place : ℕ) → place < 4096 → IsWord (control_word place)
control_is_word place within = (omega arith, omega arith)

pub control_is_positive : (place : ℕ) → place < 4096 → sign_of (control_word place) ≡ false
control_is_positive place within = grind (arith, nat_tests)

-- codes that are skipped, as the carriage return after a cell is
pub record AreSkipped (codes : List ℕ) : Type 0 where
  pub no_stop : list_any is_stop codes ≡ false
  pub none_enters : filter enters codes ≡ []

pub nothing_skipped : AreSkipped []
nothing_skipped = record { no_stop = refl; none_enters = refl }

pub return_skipped : AreSkipped (carriage_return ∷ [])
return_skipped = record { no_stop = refl; none_enters = refl }

no_stop_before : (skipped : List ℕ) (word : ℕ) → AreSkipped skipped → list_any is_stop (skipped ++ word_codes word) ≡ false
no_stop_before skipped word are = grind (arith, list_any-append, skipped, word_no_stop)

word_enters : (skipped : List ℕ) (word : ℕ) → AreSkipped skipped → filter enters (skipped ++ word_codes word) ≡ word_codes word
word_enters skipped word are = grind (arith, filter-append, skipped, word_unfiltered)

-- the codes that one input passes
abbrev pub read_codes : List ℕ → ℕ → List ℕ
read_codes skipped word = (skipped ++ word_codes word) ++ stop_code ∷ []

-- a word read from the tape, by p and i
pub two_orders : (switches : Switches) (counter accumulator register : ℕ) (words passed skipped rest : List ℕ) (word : ℕ) (count : ℕ) (last : Core)
    → Fetches words counter (plain_order P 0) P 0 → Fetches words (counter + 1) (plain_order I 0) I 0 → counter + 2 < 4096
    → AreSkipped skipped → IsWord word
    → Runs count (core_at switches (counter + 2) word (plain_order I 0) words (off (passed ++ read_codes skipped word) rest)) last
    → Runs (suc (suc count)) (core_at switches counter accumulator register words (off passed ((skipped ++ word_codes word) ++ stop_code ∷ rest))) last
two_orders switches counter accumulator register words passed skipped rest word count last p i within are is runs =
    let left = (skipped ++ word_codes word) ++ stop_code ∷ rest in
    let started : (counter + 1) % 4096 ≡ counter + 1 = omega arith in
    let read : (counter + 1 + 1) % 4096 ≡ counter + 2 = omega arith in
    let next = core_at switches (counter + 1) accumulator (plain_order P 0) words (on passed left) in
    let then = core_at switches (counter + 2) word (plain_order I 0) words (off (passed ++ read_codes skipped _) rest) in
    let first : Leads (core_at switches counter accumulator register words (off passed left)) next =
    subst (λ n. Leads (core_at switches counter accumulator register words (off passed left)) (core_at switches n accumulator (plain_order P 0) words (on passed left))) started
    (reader_starts switches _ _ _ _ _ _ _ p) in
    let second : Leads next then =
    subst (λ n. Leads next (core_at switches n word (plain_order I 0) words (off (passed ++ read_codes skipped word) rest))) read
    (word_read switches _ _ _ _ _ _ _ _ _ i
    (no_stop_before skipped _ are) (word_enters skipped _ are) is) in
    one_then (suc count) _ _ last first
    (one_then _ _ _ last second runs)

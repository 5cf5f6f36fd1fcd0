-- The block loader on the drum, with its cells, and the two orders by which it counts.
use Rattle.std.proofs.Common.{Bool, not, true, ◌&&◌, ◌||◌, ◌==◌, nat_lt, ◌≡◌, ◌≢◌, ℕ, zero, suc, ◌+◌, ◌/◌, ◌%◌, ◌^◌, ◌<◌, ◌≤◌, true, false, refl, sym, ap, ◌∙◌, arith, List, length, slice_index, slice_set}
use Rattle.std.proofs.lemmas.Bool.Decides.{nat_tests}
use Rattle.std.proofs.lemmas.Int.{ints}
use Rattle.std.proofs.lemmas.List.{get_or-set_other, get_or-set_same, length-set, set-set, set_comm}
use Rattle.lgp_word.specs.Address.{address_after}
use Rattle.lgp_word.specs.Order.{address_at, op_at, op_of, sign_of}
use Rattle.lgp_word.specs.Word.{IsWord}
use Rattle.lgp_word.specs.declared.order.Op.TheVariants.{A, B, C}
use Rattle.lgp_fraction.specs.Arithmetic.{added}
use Rattle.lgp_fraction.specs.declared.arithmetic.Arith.{Arith}
use Rattle.lgp_flexo.specs.Tape.{Tape}
use Rattle.lgp_table.specs.Activity.{after_order}
use Rattle.lgp_table.specs.Rows.{arithmetic_effect}
use Rattle.lgp_table.specs.declared.panel.Status.TheVariants.{Going}
use Rattle.lgp_table.specs.declared.panel.Switches.{Switches}
use Rattle.lgp_assembler.specs.Parts.{is_loaders}
use Rattle.lgp_loader.specs.BlockPlaces.{block_end_cell, block_loader_words, block_store_cell, count_cell, one_up, one_up_place}
use Rattle.lgp_loader.specs.BlockTape.{count_word}
use Rattle.lgp_loader.specs.LoaderTape.{control_word}
use Rattle.lgp_assembler.specs.Parts.{loader_base}
use Rattle.lgp_loader.proofs.Orders.{Fetches, Leads, core_at, performs}

-- a plain sum
abbrev pub sum_of : ℕ → Arith
sum_of number = record { accumulator = number; overflow = false }

-- one up, of a positive word and of a negative one
pub one_up_positive : (number : ℕ) → number + 4 < 2 ^ 31 → added number one_up ≡ sum_of (number + 4)
unfolding added
one_up_positive number small = grind (arith, ints, nat_tests)

pub one_up_negative : (number : ℕ) → 2 ^ 31 ≤ number → number + 4 < 2 ^ 32 → added number one_up ≡ sum_of (number + 4)
unfolding added
one_up_negative number large small = grind (arith, ints, nat_tests)

-- b brings a word, a adds one
pub brings : (switches : Switches) (counter accumulator register : ℕ) (words : List ℕ) (tape : Tape) (word address found : ℕ)
    → Fetches words counter word B address → slice_index words address ≡ found
    → Leads (core_at switches counter accumulator register words tape) (core_at switches (address_after counter) found word words tape)
brings switches counter accumulator register words tape word address found fetches is =
    performs switches counter accumulator register words tape word B address fetches refl refl
    (core_at switches (address_after counter) found word words tape)
    (ap (λ n. core_at switches (address_after counter) n word words tape) is)

pub adds : (switches : Switches) (counter accumulator register : ℕ) (words : List ℕ) (tape : Tape) (word address sum : ℕ)
    → Fetches words counter word A address → added accumulator (slice_index words address) ≡ sum_of sum
    → Leads (core_at switches counter accumulator register words tape) (core_at switches (address_after counter) sum word words tape)
adds switches counter accumulator register words tape word address sum fetches is =
    performs switches _ _ _ _ _ _ A _ fetches refl refl
    (core_at switches (address_after counter) sum word words tape)
    (ap (λ result. after_order (arithmetic_effect (core_at switches (address_after counter) accumulator word words tape) result) Going) is)

-- the block loader lies on the drum, but for its three cells
pub record HasBlockLoader (words : List ℕ) : Type 0 where
  pub drum : length words ≡ 4096
  pub fixed : (k : ℕ) → k < 22 → k ≢ 9 → k ≢ 19 → k ≢ 21 → slice_index words (loader_base + k) ≡ slice_index block_loader_words k

-- a place other than those from which it reads its orders and its constant
abbrev pub IsElsewhere : ℕ → Type 0
IsElsewhere place = (k : ℕ) → k < 22 → k ≢ 9 → k ≢ 19 → k ≢ 21 → place ≢ loader_base + k

pub block_loader_stays : (words : List ℕ) (place word : ℕ) → HasBlockLoader words → IsElsewhere place → HasBlockLoader (slice_set words place word)
block_loader_stays words place word has elsewhere = record {
  drum = length-set words place word ∙ has.drum;
  fixed = λ k within store end count. get_or-set_other words place (loader_base + k) word 0 (λ same. elsewhere k within store end count (sym same)) ∙ has.fixed k within store end count;
}

pub store_cell_elsewhere : IsElsewhere block_store_cell
store_cell_elsewhere k within store end count same = store (omega (arith, same))

pub end_cell_elsewhere : IsElsewhere block_end_cell
end_cell_elsewhere k within store end count same = end (omega (arith, same))

pub count_cell_elsewhere : IsElsewhere count_cell
count_cell_elsewhere k within store end count same = count (omega (arith, same))

pub program_elsewhere : (place : ℕ) → is_loaders place ≡ false → IsElsewhere place
program_elsewhere place free k within store end count same = grind (arith, nat_tests)

-- the drum with the store cell and the count
abbrev pub with_cells : List ℕ → ℕ → ℕ → List ℕ
with_cells words store count = slice_set (slice_set words block_store_cell store) count_cell count

pub has_with_cells : (words : List ℕ) (store count : ℕ) → HasBlockLoader words → HasBlockLoader (with_cells words store count)
has_with_cells words store count has =
    block_loader_stays _ _ _
    (block_loader_stays _ _ _ has store_cell_elsewhere) count_cell_elsewhere

-- what the cells hold
pub store_held : (words : List ℕ) (store count : ℕ) → length words ≡ 4096 → slice_index (with_cells words store count) block_store_cell ≡ store
store_held words store count long =
    get_or-set_other (slice_set words block_store_cell store) count_cell block_store_cell count 0 (λ same. omega (arith, same))
    ∙ get_or-set_same words block_store_cell store 0 (omega (arith, long))

pub count_held : (words : List ℕ) (store count : ℕ) → length words ≡ 4096 → slice_index (with_cells words store count) count_cell ≡ count
count_held words store count long =
    get_or-set_same (slice_set words block_store_cell store) count_cell count 0 (let same = length-set words block_store_cell store in omega (arith, long, same))

-- a word put into a cell, and one put elsewhere
pub store_set : (words : List ℕ) (store count new : ℕ) → slice_set (with_cells words store count) block_store_cell new ≡ with_cells words new count
store_set words store count new =
    set_comm (slice_set words block_store_cell store) count_cell block_store_cell count new (λ same. omega (arith, same))
    ∙ ap (λ ws. slice_set ws count_cell count) (set-set words block_store_cell store new)

pub count_set : (words : List ℕ) (store count new : ℕ) → slice_set (with_cells words store count) count_cell new ≡ with_cells words store new
count_set words store count new = set-set (slice_set words block_store_cell store) count_cell count new

pub word_set : (words : List ℕ) (store count place word : ℕ) → block_store_cell ≢ place → count_cell ≢ place
    → slice_set (with_cells words store count) place word ≡ with_cells (slice_set words place word) store count
word_set words store count place word apart_from_store apart_from_count =
    set_comm (slice_set words block_store_cell store) count_cell place count word apart_from_count
    ∙ ap (λ ws. slice_set ws count_cell count) (set_comm words block_store_cell place store word apart_from_store)

-- the places of the loader's words that it does not change itself
abbrev pub is_fixed : ℕ → Bool
is_fixed k = nat_lt k 22 && not ((k == 9) || ((k == 19) || (k == 21)))

-- such a word of the loader with its parts
pub fetches : (words : List ℕ) (k : ℕ) → HasBlockLoader words → is_fixed k ≡ true
    → let word = slice_index block_loader_words k in Fetches words (loader_base + k) word (op_at word) (address_at word)
fetches words k has is = record {
  here = has.fixed k (grind (arith, nat_tests)) (grind (arith, nat_tests)) (grind (arith, nat_tests)) (grind (arith, nat_tests));
  is_op = refl;
  is_at = refl;
}

pub fetch_store : (words : List ℕ) (place count : ℕ) → length words ≡ 4096 → place < 4096
    → Fetches (with_cells words (control_word place) count) block_store_cell (control_word place) C place
unfolding op_of
fetch_store words place count long within = record {
  here = store_held _ _ _ long;
  is_op = let number : control_word place / 65536 % 16 ≡ 13 = omega arith in rw number refl;
  is_at = omega arith;
}

pub one_up_there : (words : List ℕ) → HasBlockLoader words → slice_index words one_up_place ≡ one_up
one_up_there words has = (fetches _ 20 has refl).here

-- the count that is left: it is zero after the last word
unfoldable pub count_left : ℕ → ℕ
count_left zero = 0
count_left (suc more) = count_word (suc more)

pub counted_up : (more : ℕ) → more < 4096 → added (count_word (suc more)) one_up ≡ sum_of (count_left more)
unfolding added count_left
counted_up zero few = refl
counted_up (suc more) few = grind (arith, one_up_negative)

pub control_up : (place : ℕ) → place < 4096 → added (control_word place) one_up ≡ sum_of (control_word (place + 1))
control_up place within = one_up_positive _ (omega arith) ∙ ap sum_of (omega arith)

pub count_is_word : (more : ℕ) → more ≤ 4096 → IsWord (count_left more)
unfolding count_left
count_is_word zero few = (omega arith, refl)
count_is_word (suc more) few = (omega (arith, few), omega (arith, few))

pub count_is_negative : (more : ℕ) → more < 4096 → sign_of (count_left (suc more)) ≡ true
unfolding count_left
count_is_negative more few = grind (arith, nat_tests)

pub next_control_is_word : (place : ℕ) → place < 4096 → IsWord (control_word (place + 1))
next_control_is_word place within = (omega arith, omega arith)

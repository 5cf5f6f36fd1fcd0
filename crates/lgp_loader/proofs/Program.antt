-- What loading leaves of the program, and how long all of it takes.
use Rattle.std.proofs.Common.{◌≡◌, ◌≢◌, ℕ, zero, suc, ◌+◌, ◌<◌, ◌≤◌, true, refl, sym, ap, ◌∙◌, subst, arith, ⊎_elim, List, [], ◌∷◌, ◌++◌, Option, length, map, slice_index, slice_index_or, slice_set, take, take_all}
use Rattle.std.specs.Prelude.{IfSome, OnOk, Result, sum_by}
use Rattle.std.proofs.lemmas.Result.{on_ok_weaker}
use Rattle.std.specs.List.{All, AllPairs, range_with_len}
use Rattle.std.proofs.lemmas.List.{get_or-set_other, get_or-set_same, length-set}
use Rattle.std.proofs.lemmas.List.Elements.{All-head, All-tail}
use Rattle.std.proofs.lemmas.List.Sums.{sum_by-append, sum_by-cons}
use Rattle.lgp_word.specs.Address.{IsAddress}
use Rattle.lgp_table.specs.State.{State}
use Rattle.lgp_table.specs.Activity.{cost}
use Rattle.lgp_table.specs.After.{after}
use Rattle.lgp_table.specs.Interleaving.{Configuration, at_boundary}
use Rattle.lgp_table.proofs.After.{after_none, after_one_more}
use Rattle.lgp_keyin.specs.KeyIn.{about_to_jump, keyed, words_keyed}
use Rattle.lgp_keyin.specs.Keyed.{before_store}
use Rattle.lgp_keyin.proofs.Placed.{after_words, before_words}
use Rattle.lgp_assembler.specs.Parts.{AreProgramCells, HaveOwnPlaces, ImageParts}
use Rattle.lgp_loader.specs.BlockLoading.{block_load, words_after_blocks}
use Rattle.lgp_loader.specs.BlockPlaces.{block_loader_words}
use Rattle.lgp_loader.specs.Cutting.{are_blocks, cells_of}
use Rattle.lgp_loader.specs.LoadedOver.{IsLoadedOver}
use Rattle.lgp_loader.specs.Loading.{TapeLoad, begun, loaded, loading_cost, order_states, overlay, prepared, store_states}
use Rattle.lgp_loader.specs.Loads.{IsLoad}
use Rattle.lgp_assembler.specs.Parts.{loader_base}
use Rattle.lgp_loader.specs.declared.loading.LoadFault.{LoadFault}
use Rattle.lgp_loader.specs.ReadyInside.{LeavesProgram}
use Rattle.lgp_loader.specs.SingleLoading.{single_load, words_after_single}
use Rattle.lgp_loader.specs.SinglePlaces.{single_loader_words}
use Rattle.lgp_loader.proofs.Begun.{keyed_up, length_from, with_words}
use Rattle.lgp_loader.proofs.BlockLaw.{blocks_leave}
use Rattle.lgp_loader.proofs.Ready.{past_by_keying}
use Rattle.lgp_loader.proofs.SingleLaw.{single_leaves}
use Rattle.lgp_loader.proofs.Stopped.{keyed_clock}

-- ---- cells over a drum

overlay_misses : (cells : List (ℕ × ℕ)) (words : List ℕ) (place : ℕ) → All (λ cell. cell.0 ≢ place) cells → slice_index (overlay words cells) place ≡ slice_index words place
overlay_misses [] words place apart = refl
overlay_misses (cell ∷ cells) words place apart =
    overlay_misses cells (slice_set words cell.0 cell.1) place (All-tail (λ cell. cell.0 ≢ place) cell cells apart)
    ∙ get_or-set_other words cell.0 place cell.1 0 (λ same. All-head (λ cell. cell.0 ≢ place) cell cells apart (sym same))

overlay_lies : (cells : List (ℕ × ℕ)) (words : List ℕ) → AllPairs (λ one other. one.0 ≢ other.0) cells → All (λ cell. cell.0 < length words) cells
    → All (λ cell. slice_index (overlay words cells) cell.0 ≡ cell.1) cells
overlay_lies [] words apart within k d less = absurd (let wrong : ⊥ = omega (arith, less) in wrong)
overlay_lies (cell ∷ cells) words apart within zero d less =
    overlay_misses _ _ _ (λ k e there same. apart 0 (suc k) e (omega arith) (omega (arith, there)) (sym same))
    ∙ get_or-set_same words cell.0 cell.1 0 (within 0 d less)
overlay_lies (cell ∷ cells) words apart within (suc k) d less =
    overlay_lies cells (slice_set words cell.0 cell.1)
    (λ i j e before there. apart (suc i) (suc j) e (omega (arith, before)) (omega (arith, there)))
    (λ i e there. let same = length-set words cell.0 cell.1 in let was = within (suc i) e (omega (arith, there)) in omega (arith, same, was))
    k d (omega (arith, less))

-- over a drum on which a loader lies
over_loader : (words loader : List ℕ) (cells : List (ℕ × ℕ)) → length words ≡ 4096 → HaveOwnPlaces cells
    → IsLoadedOver (length loader) words (overlay (with_words words loader) cells) cells
over_loader words loader cells long own =
    let drum : length (with_words words loader) ≡ 4096 = length_from loader _ loader_base ∙ long in
    record {
      words = overlay_lies _ _ own.apart (λ k d less. subst (λ n. (slice_index_or cells k d).0 < n) (sym drum) (own.on_drum k d less));
      others = λ place free apart. overlay_misses _ _ _ apart ∙ ⊎_elim
          (λ less. before_words loader _ _ _ less)
          (λ above. after_words loader words loader_base place (omega (arith, above)))
          free;
    }

-- a word put at one of the loader's places
put_in_loader : (loader : ℕ) (old new : List ℕ) (cells : List (ℕ × ℕ)) (place word : ℕ) → 4032 ≤ place → place < 4032 + loader → loader ≤ 22 → HaveOwnPlaces cells
    → IsLoadedOver loader old new cells → IsLoadedOver loader old (slice_set new place word) cells
put_in_loader loader old new cells place word least most few own over = record {
  words = λ k d less. get_or-set_other new place _ word 0 (λ same. ⊎_elim
      (λ below. let wrong : ⊥ = omega (arith, same, below, least) in wrong)
      (λ above. let wrong : ⊥ = omega (arith, same, above, most, few) in wrong)
      (own.free k d less)) ∙ over.words k d less;
  others = λ p free apart. get_or-set_other new place p word 0 (λ same. ⊎_elim
      (λ below. let wrong : ⊥ = omega (arith, same, below, least) in wrong)
      (λ above. let wrong : ⊥ = omega (arith, same, above, most) in wrong)
      free) ∙ over.others p free apart;
}

words_over_blocks : (words : List ℕ) (blocks : List (List (ℕ × ℕ))) (start : Option ℕ) → length words ≡ 4096 → HaveOwnPlaces (cells_of blocks)
    → IsLoadedOver 22 words (words_after_blocks words blocks start) (cells_of blocks)
words_over_blocks words blocks start long own =
    let cells = cells_of blocks in
    put_in_loader 22 _ _ _ _ _ (omega arith) (omega arith) (omega arith) own
    (put_in_loader 22 _ _ _ _ 0 (omega arith) (omega arith) (omega arith) own
    (put_in_loader 22 _ _ _ _ _ (omega arith) (omega arith) (omega arith) own
    (over_loader words block_loader_words cells long own)))

words_over_single : (words : List ℕ) (image : ImageParts) → length words ≡ 4096 → HaveOwnPlaces image.cells
    → IsLoadedOver 10 words (words_after_single words image) image.cells
words_over_single words image long own =
    let cells = image.cells in
    put_in_loader 10 _ _ _ _ _ (omega arith) (omega arith) (omega arith) own
    (put_in_loader 10 _ _ _ _ _ (omega arith) (omega arith) (omega arith) own
    (over_loader words single_loader_words cells long own))

-- ---- what loading leaves

pub blocks_over : (s : State) (blocks : List (List (ℕ × ℕ))) (start : Option ℕ) → length s.core.words ≡ 4096
    → are_blocks blocks ≡ true → AreProgramCells (cells_of blocks) → HaveOwnPlaces (cells_of blocks) → IfSome start IsAddress
    → IsLoadedOver 22 s.core.words (loaded s (block_load blocks start)).core.words (cells_of blocks)
blocks_over s blocks start long are program own is =
    let few = own.few in
    let left = blocks_leave s _ _ long are program (omega (arith, few)) is in
    subst (λ (ws : List ℕ). IsLoadedOver 22 s.core.words ws (cells_of blocks)) (sym (ap (λ (t : State). t.core.words) left)) (words_over_blocks _ blocks start long own)

pub single_over : (s : State) (image : ImageParts) → length s.core.words ≡ 4096 → AreProgramCells image.cells → HaveOwnPlaces image.cells → IfSome image.start IsAddress
    → IsLoadedOver 10 s.core.words (loaded s (single_load image)).core.words image.cells
single_over s image long program own is =
    grind (arith, single_leaves, words_over_single, own)

-- ---- how long it takes

-- activities, each of which begins at a clock and ends at the next one
costs_between : (f : ℕ → State) (clock : ℕ → ℕ) (first count : ℕ) → ((k : ℕ) → k < count → clock (first + k) + cost (f (first + k)) ≡ clock (first + k + 1))
    → clock first + sum_by cost (map f (range_with_len first count)) ≡ clock (first + count)
costs_between f clock first zero each = grind arith
costs_between f clock first (suc count) each =
    let others = map f (range_with_len (first + 1) count) in
    let parts : sum_by cost (f first ∷ others) ≡ cost (f first) + sum_by cost others = sum_by-cons _ (f first) others in
    let here : clock first + cost (f first) ≡ clock (first + 1) =
    ap (λ n. clock n + cost (f n)) (let e : first ≡ first + 0 = omega arith in e) ∙ (each 0 (omega arith) ∙ ap clock (let e : first + 0 + 1 ≡ first + 1 = omega arith in e)) in
    let later = costs_between f clock (first + 1) count
    (λ k less. ap (λ n. clock n + cost (f n)) (let e : first + 1 + k ≡ first + (k + 1) = omega arith in e) ∙ (each (k + 1) (omega (arith, less)) ∙ ap clock (let e : first + (k + 1) + 1 ≡ first + 1 + k + 1 = omega arith in e))) in
    let last : clock (first + 1 + count) ≡ clock (first + suc count) = ap clock (let e : first + 1 + count ≡ first + suc count = omega arith in e) in
    omega (arith, parts, here, later, last)

stores_cost : (s : State) (base : ℕ) (words : List ℕ) → s.clock + sum_by cost (store_states s base words) ≡ (keyed s base words).clock
unfolding store_states words_keyed
stores_cost s base words =
    let clock : ℕ → ℕ = λ k. (keyed s base (take k words)).clock in
    let sum = costs_between (before_store s base words) clock 0 (length words)
    (λ k less. ap (λ n. clock n + cost (before_store s base words n)) (let e : 0 + k ≡ k = omega arith in e)
    ∙ (keyed_clock s base words k less ∙ ap clock (let e : k + 1 ≡ 0 + k + 1 = omega arith in e))) in
    let first : clock 0 ≡ s.clock = refl in
    let last : clock (0 + length words) ≡ (keyed s base words).clock =
    ap clock (let e : 0 + length words ≡ length words = omega arith in e) ∙ ap (λ ws. (keyed s base ws).clock) (take_all (length words) words (omega arith)) in
    omega (arith, sum, first, last)

orders_cost : (s : State) (count : ℕ) → s.clock + sum_by cost (order_states s count) ≡ (after s count).clock
unfolding order_states
orders_cost s count =
    let clock : ℕ → ℕ = λ k. (after s k).clock in
    let sum = costs_between (after s) clock 0 count
    (λ k less. ap (λ n. clock n + cost (after s n)) (let e : 0 + k ≡ k = omega arith in e)
    ∙ (sym (ap (λ (t : State). t.clock) (after_one_more s k)) ∙ ap clock (let e : k + 1 ≡ 0 + k + 1 = omega arith in e))) in
    let first : clock 0 ≡ s.clock = ap (λ (t : State). t.clock) (after_none s) in
    let last : clock (0 + count) ≡ (after s count).clock = ap clock (let e : 0 + count ≡ count = omega arith in e) in
    omega (arith, sum, first, last)

-- the clock after loading is the one before it and what all its activities cost
pub loading_clock : (s : State) (load : TapeLoad) → (loaded s load).clock ≡ s.clock + loading_cost s load
unfolding loading_cost
loading_clock s load =
    let stores = store_states s loader_base load.loader in
    let jump = about_to_jump (prepared s load) loader_base in
    let orders = order_states (begun s load) load.orders in
    let whole : sum_by cost (stores ++ jump ∷ orders) ≡ sum_by cost stores + sum_by cost (jump ∷ orders) = sum_by-append cost stores (jump ∷ orders) in
    let rest : sum_by cost (jump ∷ orders) ≡ cost jump + sum_by cost orders = sum_by-cons _ jump orders in
    let storing = stores_cost s loader_base load.loader in
    let jumping : (keyed s loader_base load.loader).clock + cost jump ≡ (begun s load).clock = refl in
    let performing = orders_cost (begun s load) load.orders in
    omega (arith, whole, rest, storing, jumping, performing)

-- the same of the machine that has loaded
pub time_loaded : (now : Configuration) (s : State) (load : TapeLoad) → now ≡ at_boundary (loaded s load) → now.state.clock ≡ s.clock + loading_cost s load
time_loaded now s load at = ap (λ (c : Configuration). c.state.clock) at ∙ loading_clock s _

pub program_loaded : (now : Configuration) (s : State) (load : TapeLoad) (cells : List (ℕ × ℕ)) → now ≡ at_boundary (loaded s load) → length s.core.words ≡ 4096
    → LeavesProgram load cells → IsLoadedOver (length load.loader) s.core.words now.state.core.words cells
program_loaded now s load cells at long leaves = grind arith

-- the same after a load
pub program_read : (load : TapeLoad) (cells : List (ℕ × ℕ)) (before after : Configuration) (answer : Result ℕ LoadFault)
    → IsLoad load before after answer → length before.state.core.words ≡ 4096 → LeavesProgram load cells
    → OnOk answer (IsLoadedOver (length load.loader) before.state.core.words after.state.core.words cells)
program_read load cells before after answer is long leaves =
    on_ok_weaker answer (λ at. program_loaded _ before.state _ _ at long leaves) is.leaves

pub ruleset tape_loaded = (keyed_up, past_by_keying, time_loaded)

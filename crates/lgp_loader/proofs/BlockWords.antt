-- The block loader's way through the words of a block: ten orders for each.
use Rattle.std.proofs.Common.{◌≡◌, ◌≢◌, ℕ, zero, suc, ◌+◌, ◌*◌, ◌<◌, false, refl, sym, ap, ◌∙◌, subst, arith, List, [], ◌∷◌, ◌++◌, append-nil, append_assoc, length, slice_set, map}
use Rattle.std.specs.List.{concat}
use Rattle.std.proofs.lemmas.Bool.Decides.{nat_tests}
use Rattle.lgp_word.specs.Order.{op_of, plain_order}
use Rattle.lgp_word.specs.Word.{IsWord}
use Rattle.lgp_word.specs.declared.order.Op.TheVariants.{I, T, H, A, B}
use Rattle.lgp_fraction.specs.Arithmetic.{added}
use Rattle.lgp_flexo.specs.Code.{stop_code}
use Rattle.lgp_flexo.specs.WordCodes.{word_codes}
use Rattle.lgp_table.specs.State.{Core}
use Rattle.lgp_table.specs.declared.panel.Switches.{Switches}
use Rattle.lgp_assembler.specs.Parts.{AreProgramCells, is_loaders}
use Rattle.lgp_loader.specs.BlockPlaces.{block_store_cell, count_cell, next_word, one_up_place}
use Rattle.lgp_loader.specs.BlockTape.{count_word, word_of_cell}
use Rattle.lgp_loader.specs.LoaderTape.{control_word, stopped_word}
use Rattle.lgp_loader.specs.Loading.{overlay}
use Rattle.lgp_assembler.specs.Parts.{loader_base}
use Rattle.lgp_loader.proofs.Cuts.{FollowFrom}
use Rattle.lgp_loader.proofs.Cells.{nothing_skipped, read_codes, two_orders}
use Rattle.lgp_loader.proofs.Orders.{cleared, core_at, goes_on, held, off, transfers_to}
use Rattle.lgp_loader.proofs.Runs.{Runs, one_then}
use Rattle.lgp_loader.proofs.BlockCells.{HasBlockLoader, adds, block_loader_stays, brings, control_up, count_held, count_is_negative, count_is_word, count_left, count_set, counted_up, fetch_store, fetches, has_with_cells, next_control_is_word, one_up_there, program_elsewhere, store_held, store_set, with_cells, word_set}

store_apart : (place : ℕ) → is_loaders place ≡ false → block_store_cell ≢ place
store_apart place free same = grind (arith, nat_tests)

count_apart : (place : ℕ) → is_loaders place ≡ false → count_cell ≢ place
count_apart place free same = grind (arith, nat_tests)

-- where the test after a word leads: to the next word, or out of the block
unfoldable pub after_word : ℕ → ℕ
after_word zero = loader_base + 17
after_word (suc more) = next_word

tested : (switches : Switches) (words passed rest : List ℕ) (more : ℕ) → HasBlockLoader words → more < 4096
    → (count : ℕ) (last : Core) → Runs count (core_at switches (after_word more) (count_left more) (plain_order T next_word) words (off passed rest)) last
    → Runs (suc count) (core_at switches (loader_base + 16) (count_left more) (plain_order H count_cell) words (off passed rest)) last
unfolding op_of after_word count_left
tested switches words passed rest zero has few count last runs =
    one_then _ _ _ _
    (goes_on switches (loader_base + 16) 0 (plain_order H count_cell) words (off passed rest) (plain_order T next_word) next_word
    (fetches _ 16 has refl) refl refl) runs
tested switches words passed rest (suc more) has few count last runs =
    one_then _ _ _ _
    (transfers_to switches _ _ _ _ _ _ _
    (fetches _ 16 has refl) refl (count_is_negative _ (omega (arith, few)))) runs

-- the count goes up, and is tested
counted : (switches : Switches) (register : ℕ) (words passed rest : List ℕ) (store more : ℕ) → HasBlockLoader words → more < 4096
    → (count : ℕ) (last : Core)
    → Runs count (core_at switches (after_word more) (count_left more) (plain_order T next_word) (with_cells words store (count_left more)) (off passed rest)) last
    → (accumulator : ℕ)
    → Runs (suc (suc (suc (suc count)))) (core_at switches (loader_base + 13) accumulator register (with_cells words store (count_word (suc more))) (off passed rest)) last
unfolding op_of
counted switches register words passed rest store more has few count last runs accumulator =
    let old = count_word (suc more) in
    let new = count_left more in
    let ws = with_cells words store old in
    let tape = off passed rest in
    let has0 = has_with_cells _ _ _ has in
    let has1 = has_with_cells _ _ _ has in
    let test = tested switches _ _ _ _ has1 few _ _ runs in
    let held_there = held switches (loader_base + 15) new (plain_order A one_up_place) ws tape (plain_order H count_cell) count_cell
    (fetches ws 15 has0 refl) (count_is_word _ (omega (arith, few))) in
    let third = one_then (suc count) _ _ last held_there
    (subst (λ w. Runs (suc count) (core_at switches (loader_base + 16) new (plain_order H count_cell) w tape) last) (sym (count_set _ _ old _)) test) in
    let sum = ap (λ n. added old n) (one_up_there ws has0) ∙ counted_up _ few in
    let second = one_then (suc (suc count)) _ _ last
    (adds switches _ _ (plain_order B count_cell) ws tape _ _ _
    (fetches ws 14 has0 refl) sum) third in
    one_then (suc (suc (suc count))) _ _ last
    (brings switches _ _ _ ws _ _ _ _
    (fetches ws 13 has0 refl) (count_held _ _ _ has.drum)) second

-- the order in the store cell goes up
moved_up : (switches : Switches) (register : ℕ) (words passed rest : List ℕ) (place count_now : ℕ) → HasBlockLoader words → place < 4096
    → (count : ℕ) (last : Core)
    → Runs count (core_at switches (loader_base + 13) (control_word (place + 1)) (plain_order H block_store_cell) (with_cells words (control_word (place + 1)) count_now) (off passed rest)) last
    → Runs (suc (suc (suc count))) (core_at switches (loader_base + 10) 0 register (with_cells words (control_word place) count_now) (off passed rest)) last
unfolding op_of
moved_up switches register words passed rest place count_now has within count last runs =
    let old = control_word place in
    let new = control_word (place + 1) in
    let ws = with_cells words old count_now in
    let tape = off passed rest in
    let has0 = has_with_cells _ _ _ has in
    let held_there = held switches (loader_base + 12) new (plain_order A one_up_place) ws tape (plain_order H block_store_cell) block_store_cell
    (fetches ws 12 has0 refl) (next_control_is_word _ within) in
    let third = one_then _ _ _ _ held_there
    (subst (λ w. Runs count (core_at switches (loader_base + 13) new (plain_order H block_store_cell) w tape) last) (sym (store_set _ _ _ _)) runs) in
    let sum = ap (λ n. added old n) (one_up_there ws has0) ∙ control_up _ within in
    let second = one_then (suc count) _ _ last
    (adds switches _ _ (plain_order B block_store_cell) ws tape _ _ _
    (fetches ws 11 has0 refl) sum) third in
    one_then (suc (suc count)) _ _ last
    (brings switches _ 0 _ ws _ _ _ _
    (fetches ws 10 has0 refl) (store_held _ _ _ has.drum)) second

-- one word: it is read and stored, and the order that stores and the count go up
pub one_word : (switches : Switches) (accumulator register : ℕ) (words passed rest : List ℕ) (place word more : ℕ)
    → HasBlockLoader words → place < 4096 → is_loaders place ≡ false → IsWord word → more < 4096
    → (count : ℕ) (last : Core)
    → Runs count (core_at switches (after_word more) (count_left more) (plain_order T next_word) (with_cells (slice_set words place word) (control_word (place + 1)) (count_left more))
    (off (passed ++ read_codes [] word) rest)) last
    → Runs (suc (suc (suc (suc (suc (suc (suc (suc (suc (suc count)))))))))) (core_at switches next_word accumulator register (with_cells words (control_word place) (count_word (suc more)))
    (off passed (word_codes word ++ stop_code ∷ rest))) last
unfolding op_of
one_word switches accumulator register words passed rest place word more has within free is few count last runs =
    let control = control_word place in
    let old = count_word (suc more) in
    let ws = with_cells words control old in
    let words1 = slice_set words place word in
    let passed1 = passed ++ read_codes [] word in
    let has0 = has_with_cells _ _ _ has in
    let has1 = block_loader_stays _ _ _ has (program_elsewhere _ free) in
    let after = counted switches (plain_order H block_store_cell) words1 passed1 rest (control_word (place + 1)) more has1 few count last runs (control_word (place + 1)) in
    let up = moved_up switches _ _ _ _ _ old has1 within (suc (suc (suc (suc count)))) last after in
    let stored_there = cleared switches _ _ (plain_order I 0) ws (off passed1 rest) _ _ (fetch_store words place old has.drum within) is in
    let third = one_then (suc (suc (suc (suc (suc (suc (suc count))))))) _ _ last stored_there
    (subst (λ w. Runs (suc (suc (suc (suc (suc (suc (suc count))))))) (core_at switches (loader_base + 10) 0 control w (off passed1 rest)) last)
    (sym (word_set _ _ _ _ _ (store_apart _ free) (count_apart _ free))) up) in
    two_orders switches _ _ _ ws _ [] _ _ (suc (suc (suc (suc (suc (suc (suc (suc count)))))))) last
    (fetches ws 7 has0 refl)
    (fetches ws 8 has0 refl)
    (omega arith) nothing_skipped is third

-- the codes of some words, the first of them and the others
word_shape : (word others rest : List ℕ) → ((word ++ stop_code ∷ []) ++ others) ++ rest ≡ word ++ stop_code ∷ (others ++ rest)
word_shape word others _ = simp append_assoc refl

abbrev pub words_codes : List (ℕ × ℕ) → List ℕ
words_codes cells = concat (map word_of_cell cells)

-- all words of a block
pub block_words : (switches : Switches) (accumulator register : ℕ) (words passed rest : List ℕ) (place word : ℕ) (cells : List (ℕ × ℕ)) (after : ℕ)
    → HasBlockLoader words → AreProgramCells ((place, word) ∷ cells) → FollowFrom (place + 1) cells → length cells < 4096
    → place + suc (length cells) ≡ after
    → (count : ℕ) (last : Core)
    → Runs count (core_at switches (loader_base + 17) 0 (plain_order T next_word) (with_cells (overlay words ((place, word) ∷ cells)) (control_word after) 0)
    (off (passed ++ words_codes ((place, word) ∷ cells)) rest)) last
    → Runs (10 * length ((place, word) ∷ cells) + count) (core_at switches next_word accumulator register (with_cells words (control_word place) (count_word (suc (length cells))))
    (off passed (words_codes ((place, word) ∷ cells) ++ rest))) last
unfolding after_word count_left
block_words switches accumulator register words passed rest place word [] after has ((within, free, is), others) follow few same count last runs =
    let words1 = slice_set words place word in
    let at_end : place + 1 ≡ after = omega (arith, same) in
    let here = subst (λ n. Runs count (core_at switches (loader_base + 17) 0 (plain_order T next_word) (with_cells words1 (control_word n) 0) (off (passed ++ words_codes ((place, word) ∷ [])) rest)) last)
    (sym at_end) runs in
    let passed_is : passed ++ words_codes ((place, word) ∷ []) ≡ passed ++ read_codes [] word = ap (λ codes. passed ++ codes) (append-nil (stopped_word word)) in
    let there = subst (λ codes. Runs count (core_at switches (loader_base + 17) 0 (plain_order T next_word) (with_cells words1 (control_word (place + 1)) 0) (off codes rest)) last) passed_is here in
    let all = one_word switches accumulator register words passed rest place word zero has within free is (omega arith) count last there in
    let block : List (ℕ × ℕ) = (place, word) ∷ [] in
    let orders : suc (suc (suc (suc (suc (suc (suc (suc (suc (suc count))))))))) ≡ 10 * length block + count = omega arith in
    let counted_all = subst (λ n. Runs n (core_at switches next_word accumulator register (with_cells words (control_word place) (count_word 1)) (off passed (word_codes word ++ stop_code ∷ rest))) last) orders all in
    subst (λ codes. Runs (10 * length block + count) (core_at switches next_word accumulator register (with_cells words (control_word place) (count_word 1)) (off passed codes)) last)
    (sym (word_shape _ [] _)) counted_all
block_words switches accumulator register words passed rest place word ((p, w) ∷ cells) after has ((within, free, is), others) (next, follow) few same count last runs =
    let words1 = slice_set words place word in
    let passed1 = passed ++ read_codes [] word in
    let more = suc (length cells) in
    let later_codes = words_codes ((p, w) ∷ cells) in
    let shape : passed1 ++ later_codes ≡ passed ++ words_codes ((place, word) ∷ (p, w) ∷ cells) = append_assoc passed (read_codes [] word) later_codes in
    let here = subst (λ codes. Runs count (core_at switches (loader_base + 17) 0 (plain_order T next_word) (with_cells (overlay words1 ((p, w) ∷ cells)) (control_word after) 0) (off codes rest)) last)
    (sym shape) runs in
    let later = block_words switches (count_word more) (plain_order T next_word) words1 passed1 rest p w cells after
    (block_loader_stays _ _ _ has (program_elsewhere _ free)) others (subst (λ n. FollowFrom (n + 1) cells) (sym next) follow) (omega (arith, few)) (omega (arith, same, next)) count last here in
    let from_place = subst (λ n. Runs (10 * more + count) (core_at switches next_word (count_word more) (plain_order T next_word) (with_cells words1 (control_word n) (count_word more)) (off passed1 (later_codes ++ rest))) last)
    next later in
    let all = one_word switches _ _ _ _ _ _ _ _ has within free is (omega (arith, few)) _ _ from_place in
    let orders : suc (suc (suc (suc (suc (suc (suc (suc (suc (suc (10 * more + count)))))))))) ≡ 10 * length ((place, word) ∷ (p, w) ∷ cells) + count = omega arith in
    let counted_all = subst (λ n. Runs n (core_at switches next_word accumulator register (with_cells words (control_word place) (count_word (suc more))) (off passed (word_codes word ++ stop_code ∷ (later_codes ++ rest)))) last) orders all in
    subst (λ codes. Runs (10 * length ((place, word) ∷ (p, w) ∷ cells) + count) (core_at switches next_word accumulator register (with_cells words (control_word place) (count_word (suc more))) (off passed codes)) last)
    (sym (word_shape _ _ _)) counted_all

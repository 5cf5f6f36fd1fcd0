-- The block loader's way through a tape of blocks, and what it leaves.
use Rattle.std.proofs.Common.{◌≡◌, ℕ, suc, ◌+◌, ◌*◌, ◌<◌, ◌≤◌, refl, sym, ap, ◌∙◌, subst, arith, true, List, [], ◌∷◌, ◌++◌, append_assoc, length, length-append, slice_set, map, Option}
use Rattle.std.specs.List.{concat}
use Rattle.std.specs.Prelude.{IfSome}
use Rattle.std.proofs.lemmas.Bool.{and_parts}
use Rattle.std.proofs.lemmas.List.Sums.{fold-append}
use Rattle.lgp_word.specs.Address.{IsAddress}
use Rattle.lgp_word.specs.Order.{op_of, plain_order}
use Rattle.lgp_word.specs.Word.{IsWord}
use Rattle.lgp_word.specs.declared.order.Op.TheVariants.{I, U, T, H}
use Rattle.lgp_flexo.specs.Code.{stop_code}
use Rattle.lgp_flexo.specs.WordCodes.{word_codes}
use Rattle.lgp_table.specs.State.{Core}
use Rattle.lgp_table.specs.declared.panel.Switches.{Switches}
use Rattle.lgp_assembler.specs.Parts.{AreProgramCells}
use Rattle.lgp_loader.specs.BlockLoading.{orders_for, store_after}
use Rattle.lgp_loader.specs.BlockPlaces.{block_end_cell, block_end_place, block_store_cell, count_cell, next_word}
use Rattle.lgp_loader.specs.BlockTape.{block_codes, count_word}
use Rattle.lgp_loader.specs.Cutting.{are_blocks, cells_of, is_block}
use Rattle.lgp_loader.specs.LoaderTape.{carriage_return, control_word, end_word, stopped_word}
use Rattle.lgp_loader.specs.Loading.{overlay}
use Rattle.lgp_assembler.specs.Parts.{loader_base}
use Rattle.lgp_loader.proofs.Cuts.{FollowFrom, places_follow}
use Rattle.lgp_loader.proofs.Cells.{AreSkipped, control_is_positive, control_is_word, nothing_skipped, read_codes, return_skipped, two_orders}
use Rattle.lgp_loader.proofs.Orders.{core_at, goes_on, held, jumps, off}
use Rattle.lgp_loader.proofs.Runs.{Runs, one_then}
use Rattle.lgp_loader.proofs.Through.{core_at_end, end_read}
use Rattle.lgp_loader.proofs.BlockCells.{HasBlockLoader, block_loader_stays, program_elsewhere, count_set, fetches, has_with_cells, store_set, with_cells}
use Rattle.lgp_loader.proofs.BlockWords.{block_words, words_codes}

-- a block's codes, after some that are skipped, and all that follow
abbrev pub block_left : List ℕ → ℕ → ℕ → List ℕ → List ℕ → List ℕ
block_left skipped control count codes rest = (skipped ++ word_codes control) ++ stop_code ∷ (word_codes count ++ stop_code ∷ (codes ++ (carriage_return ∷ rest)))

block_count_is_word : (more : ℕ) → more < 4096 → IsWord (count_word (suc more))
block_count_is_word more few = (omega (arith, few), omega (arith, few))

pub one_block : (switches : Switches) (accumulator register : ℕ) (words passed skipped rest : List ℕ) (store0 count0 : ℕ) (place word : ℕ) (cells : List (ℕ × ℕ)) (after : ℕ)
    → HasBlockLoader words → AreSkipped skipped → place < 4096 → AreProgramCells ((place, word) ∷ cells) → FollowFrom (place + 1) cells → length cells < 4096
    → place + suc (length cells) ≡ after
    → (count : ℕ) (last : Core)
    → Runs count (core_at switches loader_base 0 (plain_order U loader_base) (with_cells (overlay words ((place, word) ∷ cells)) (control_word after) 0)
    (off (((passed ++ read_codes skipped (control_word place)) ++ read_codes [] (count_word (suc (length cells)))) ++ words_codes ((place, word) ∷ cells)) (carriage_return ∷ rest))) last
    → HasBlockLoader (overlay words ((place, word) ∷ cells))
    → Runs (8 + 10 * length ((place, word) ∷ cells) + count) (core_at switches loader_base accumulator register (with_cells words store0 count0)
    (off passed (block_left skipped (control_word place) (count_word (suc (length cells))) (words_codes ((place, word) ∷ cells)) rest))) last
unfolding op_of
one_block switches accumulator register words passed skipped rest store0 count0 place word cells after has are within program follow few same count last runs has_after =
    let control = control_word place in
    let n = suc (length cells) in
    let number = count_word n in
    let codes = words_codes ((place, word) ∷ cells) in
    let end = carriage_return ∷ rest in
    let left1 = word_codes number ++ stop_code ∷ (codes ++ end) in
    let passed1 = passed ++ read_codes skipped _ in
    let passed2 = passed1 ++ read_codes [] number in
    let ws0 = with_cells words store0 count0 in
    let ws1 = with_cells words control count0 in
    let has0 = has_with_cells _ _ _ has in
    let has1 = has_with_cells _ _ _ has in
    let has3 = has_with_cells _ _ 0 has_after in
    let seventh = one_then _ _ _ _
    (jumps switches _ 0 _ _ _ _ _
    (fetches _ 17 has3 refl)) runs in
    let sixth = block_words switches _ _ _ _ _ _ _ _ _ has program follow few same _ _ seventh in
    let m = 10 * n + suc count in
    let fifth = one_then m _ _ _
    (held switches (loader_base + 6) number (plain_order I 0) ws1 (off passed2 (codes ++ end)) (plain_order H count_cell) count_cell
    (fetches _ 6 has1 refl) (block_count_is_word _ few))
    (subst (λ w. Runs m (core_at switches next_word number (plain_order H count_cell) w (off passed2 (codes ++ end))) last) (sym (count_set _ _ _ _)) sixth) in
    let fourth = two_orders switches _ _ _ _ _ [] _ _ (suc m) last
    (fetches _ 4 has1 refl)
    (fetches _ 5 has1 refl)
    (omega arith) nothing_skipped (block_count_is_word _ few) fifth in
    let third = one_then (suc (suc (suc m))) _ _ last
    (held switches (loader_base + 3) control (plain_order T block_end_place) ws0 (off passed1 left1) (plain_order H block_store_cell) block_store_cell
    (fetches _ 3 has0 refl) (control_is_word _ within))
    (subst (λ w. Runs (suc (suc (suc m))) (core_at switches (loader_base + 4) control (plain_order H block_store_cell) w (off passed1 left1)) last) (sym (store_set _ store0 _ _)) fourth) in
    let second = one_then (suc (suc (suc (suc m)))) _ _ last
    (goes_on switches (loader_base + 2) control (plain_order I 0) ws0 (off passed1 left1) (plain_order T block_end_place) block_end_place
    (fetches _ 2 has0 refl) refl (control_is_positive _ within)) third in
    let first = two_orders switches _ _ _ _ _ _ _ _ (suc (suc (suc (suc (suc m))))) last
    (fetches _ 0 has0 refl)
    (fetches _ 1 has0 refl)
    (omega arith) are (control_is_word _ within) second in
    let orders : suc (suc (suc (suc (suc (suc (suc m)))))) ≡ 8 + 10 * n + count = omega arith in
    subst (λ k. Runs k (core_at switches loader_base accumulator register ws0 (off passed ((skipped ++ word_codes control) ++ stop_code ∷ left1))) last) orders first

-- the core at the end
abbrev pub block_final_core : Switches → Option ℕ → List ℕ → List ℕ → Core
block_final_core = core_at_end (block_end_cell + 1)

the_end : (switches : Switches) (accumulator register : ℕ) (words passed skipped : List ℕ) (start : Option ℕ)
    → HasBlockLoader words → AreSkipped skipped → IfSome start IsAddress
    → Runs 5 (core_at switches loader_base accumulator register words (off passed ((skipped ++ word_codes (end_word start)) ++ stop_code ∷ [])))
    (block_final_core switches start (slice_set words block_end_cell (end_word start)) (passed ++ read_codes skipped (end_word start)))
unfolding op_of
the_end switches accumulator register words passed skipped start has are is =
    end_read block_end_place switches accumulator register words passed skipped start
    (fetches words 0 has refl)
    (fetches _ 1 has refl)
    (fetches _ 2 has refl)
    (fetches _ 18 has refl)
    (omega arith) has.drum are is

-- the program's cells leave the loader where it is
pub overlay_stays : (words : List ℕ) (cells : List (ℕ × ℕ)) → HasBlockLoader words → AreProgramCells cells → HasBlockLoader (overlay words cells)
overlay_stays words [] has are = has
overlay_stays words ((place, word) ∷ cells) has ((within, free, is), others) =
    overlay_stays (slice_set words place word) cells (block_loader_stays _ _ _ has (program_elsewhere _ free)) others

program_parts : (cells more : List (ℕ × ℕ)) → AreProgramCells (cells ++ more) → AreProgramCells cells × AreProgramCells more
program_parts [] more are = (tt, are)
program_parts (cell ∷ cells) more (is, are) = let (front, after) = program_parts cells more are in ((is, front), after)

abbrev pub blocks_left : List ℕ → List (List (ℕ × ℕ)) → Option ℕ → List ℕ
blocks_left skipped blocks start = skipped ++ (concat (map block_codes blocks) ++ stopped_word (end_word start))

block_shape : (skipped control count codes rest end : List ℕ)
    → skipped ++ (((((control ++ stop_code ∷ []) ++ ((count ++ stop_code ∷ []) ++ (codes ++ carriage_return ∷ [])))) ++ rest) ++ end)
    ≡ (skipped ++ control) ++ stop_code ∷ (count ++ stop_code ∷ (codes ++ (carriage_return ∷ (rest ++ end))))
block_shape skipped _ _ _ _ _ = simp append_assoc refl

block_passed : (passed skipped control count codes rest : List ℕ)
    → (((passed ++ ((skipped ++ control) ++ stop_code ∷ [])) ++ (([] ++ count) ++ stop_code ∷ [])) ++ codes) ++ (carriage_return ∷ rest)
    ≡ passed ++ ((skipped ++ control) ++ stop_code ∷ (count ++ stop_code ∷ (codes ++ (carriage_return ∷ rest))))
block_passed passed skipped _ _ _ _ = simp append_assoc refl

end_shape : (skipped word : List ℕ) → skipped ++ (word ++ stop_code ∷ []) ≡ (skipped ++ word) ++ stop_code ∷ []
end_shape skipped _ = sym (append_assoc skipped _ _)

-- how many orders the loader performs for blocks
abbrev orders_for_blocks : List (List (ℕ × ℕ)) → ℕ
orders_for_blocks blocks = orders_for (length (cells_of blocks)) (length blocks)

pub through_blocks : (switches : Switches) (accumulator register : ℕ) (words passed skipped : List ℕ) (store : ℕ) (blocks : List (List (ℕ × ℕ))) (start : Option ℕ)
    → HasBlockLoader words → AreSkipped skipped → are_blocks blocks ≡ true → AreProgramCells (cells_of blocks) → length (cells_of blocks) ≤ 4096 → IfSome start IsAddress
    → Runs (orders_for_blocks blocks) (core_at switches loader_base accumulator register (with_cells words store 0) (off passed (blocks_left skipped blocks start)))
    (block_final_core switches start (slice_set (with_cells (overlay words (cells_of blocks)) (store_after store blocks) 0) block_end_cell (end_word start)) (passed ++ blocks_left skipped blocks start))
unfolding store_after
through_blocks switches accumulator register words passed skipped store [] start has are blocks cells few is =
    let ws = with_cells words store 0 in
    subst (λ left. Runs 5 (core_at switches loader_base accumulator register ws (off passed left))
    (block_final_core switches start (slice_set ws block_end_cell (end_word start)) (passed ++ left)))
    (sym (end_shape _ _))
    (the_end switches _ _ ws _ _ _ (has_with_cells _ _ 0 has) are is)
through_blocks switches accumulator register words passed skipped store ([] ∷ blocks) start has are blocks_are cells few is = absurd (let no : ⊥ = cc in no)
through_blocks switches accumulator register words passed skipped store (((place, word) ∷ block) ∷ blocks) start has are blocks_are cells few is =
    let whole : List (ℕ × ℕ) = (place, word) ∷ block in
    let (is_one, others) = and_parts (is_block whole) (are_blocks blocks) blocks_are in
    let follow = places_follow (place, word) _ is_one in
    let control = control_word place in
    let number = count_word (suc (length block)) in
    let codes = words_codes whole in
    let (first, later) = program_parts whole (cells_of blocks) cells in
    let words1 = overlay words whole in
    let has1 = overlay_stays words whole has first in
    let after = place + suc (length block) in
    let parts = length-append whole (cells_of blocks) in
    let rest = concat (map block_codes blocks) ++ stopped_word (end_word start) in
    let passed1 = ((passed ++ read_codes skipped control) ++ read_codes [] number) ++ codes in
    let onward = through_blocks switches 0 (plain_order U loader_base) words1 passed1 (carriage_return ∷ []) (control_word after) blocks start has1 return_skipped others later (omega (arith, few, parts)) is in
    let words_last = slice_set (with_cells (overlay words1 (cells_of blocks)) (store_after (control_word after) blocks) 0) block_end_cell (end_word start) in
    let left = block_shape skipped (word_codes control) (word_codes number) codes (concat (map block_codes blocks)) (stopped_word (end_word start)) in
    let all_passed : passed1 ++ (carriage_return ∷ rest) ≡ passed ++ blocks_left skipped (whole ∷ blocks) start =
    block_passed passed skipped (word_codes control) (word_codes number) codes rest ∙ ap (λ codes. passed ++ codes) (sym left) in
    let last = block_final_core switches start words_last (passed ++ blocks_left skipped (whole ∷ blocks) start) in
    let next = subst (λ codes. Runs (orders_for_blocks blocks) (core_at switches loader_base 0 (plain_order U loader_base) (with_cells words1 (control_word after) 0) (off passed1 (carriage_return ∷ rest))) (block_final_core switches start words_last codes)) all_passed onward in
    let (within, free, word_is) = first.0 in
    let all = one_block switches accumulator register words passed skipped rest store 0 place word block after has are within first follow (omega (arith, few, parts)) refl (orders_for_blocks blocks) last next has1 in
    let orders : 8 + 10 * length whole + orders_for_blocks blocks ≡ orders_for_blocks (whole ∷ blocks) = omega (arith, parts) in
    let counted_all = subst (λ n. Runs n (core_at switches loader_base accumulator register (with_cells words store 0) (off passed (block_left skipped control number codes rest))) last) orders all in
    let to_last = subst (λ codes. Runs (orders_for_blocks (whole ∷ blocks)) (core_at switches loader_base accumulator register (with_cells words store 0) (off passed codes)) last) (sym left) counted_all in
    subst (λ ws. Runs (orders_for_blocks (whole ∷ blocks)) (core_at switches loader_base accumulator register (with_cells words store 0) (off passed (blocks_left skipped (whole ∷ blocks) start)))
    (block_final_core switches start (slice_set (with_cells ws (store_after (control_word after) blocks) 0) block_end_cell (end_word start)) (passed ++ blocks_left skipped (whole ∷ blocks) start)))
    (sym (fold-append (λ words cell. slice_set words cell.0 cell.1) words whole (cells_of blocks))) to_last

-- The loader's way through a whole tape.
use Rattle.std.proofs.Common.{◌≡◌, ℕ, suc, ◌+◌, ◌*◌, ◌/◌, ◌%◌, ◌<◌, true, false, refl, sym, ap, ◌∙◌, subst, arith, List, [], ◌∷◌, ◌++◌, None, Some, Option, length, slice_index, slice_set, append_assoc, map}
use Rattle.std.specs.List.{concat}
use Rattle.std.specs.Prelude.{IfSome, unwrap_or}
use Rattle.std.proofs.lemmas.Bool.Decides.{nat_tests}
use Rattle.std.proofs.lemmas.List.{get_or-set_same}
use Rattle.lgp_word.specs.Address.{IsAddress, address_after}
use Rattle.lgp_word.specs.Order.{op_of, plain_order, sign_of}
use Rattle.lgp_word.specs.Word.{IsWord}
use Rattle.lgp_word.specs.declared.order.Op.TheVariants.{Z, I, P, U, T, H}
use Rattle.lgp_flexo.specs.Code.{stop_code}
use Rattle.lgp_flexo.specs.WordCodes.{word_codes}
use Rattle.lgp_table.specs.State.{Core, core_of}
use Rattle.lgp_table.specs.declared.panel.Mode.TheVariants.{Normal}
use Rattle.lgp_table.specs.declared.panel.Switches.{Switches}
use Rattle.lgp_assembler.specs.Parts.{AreProgramCells, is_loaders}
use Rattle.lgp_loader.specs.LoaderTape.{carriage_return, control_word, end_word, stopped_word}
use Rattle.lgp_loader.specs.SingleTape.{cell_codes}
use Rattle.lgp_loader.specs.Loading.{status_after_load}
use Rattle.lgp_assembler.specs.Parts.{loader_base}
use Rattle.lgp_loader.specs.SinglePlaces.{single_end_cell, single_end_place, single_store_cell}
use Rattle.lgp_loader.proofs.Orders.{Fetches, cleared, core_at, goes_on, held, jumps, off, stops, transfers_to}
use Rattle.lgp_loader.proofs.Runs.{Runs, one_then}
use Rattle.lgp_loader.proofs.Cells.{AreSkipped, HasLoader, control_is_positive, control_is_word, fetch_0, fetch_1, fetch_2, fetch_3, fetch_4, fetch_5, fetch_7, fetch_8, fetch_store, loader_stays, nothing_skipped, program_elsewhere, read_codes, return_skipped, store_cell_elsewhere, two_orders}

-- the drum after a cell: the order that stores it lies in the store cell, and the word at its place
abbrev pub words_after_cell : List ℕ → ℕ → ℕ → List ℕ
words_after_cell words place word = slice_set (slice_set words single_store_cell (control_word place)) place word

-- the codes of a cell, after some that are skipped, and all that follow
abbrev cell_left : List ℕ → ℕ → ℕ → List ℕ → List ℕ
cell_left skipped place word rest = (skipped ++ word_codes (control_word place)) ++ stop_code ∷ (word_codes word ++ stop_code ∷ (carriage_return ∷ rest))

one_cell : (switches : Switches) (accumulator register : ℕ) (words passed skipped rest : List ℕ) (place word : ℕ) (count : ℕ) (last : Core)
    → HasLoader words → AreSkipped skipped → place < 4096 → is_loaders place ≡ false → IsWord word
    → Runs count (core_at switches loader_base 0 (plain_order U loader_base) (words_after_cell words place word)
    (off ((passed ++ read_codes skipped (control_word place)) ++ read_codes [] word) (carriage_return ∷ rest))) last
    → Runs (suc (suc (suc (suc (suc (suc (suc (suc count))))))))
    (core_at switches loader_base accumulator register words (off passed (cell_left skipped place word rest))) last
one_cell switches accumulator register words passed skipped rest place word count last has are within free is runs =
    let control = control_word place in
    let left = word_codes word ++ stop_code ∷ (carriage_return ∷ rest) in
    let passed1 = passed ++ read_codes skipped control in
    let passed2 = passed1 ++ read_codes [] word in
    let has1 = loader_stays _ _ _ has store_cell_elsewhere in
    let has2 = loader_stays _ _ _ has1 (program_elsewhere _ free) in
    let eighth = one_then _ _ _ _ (jumps switches _ 0 control _ _ _ _ (fetch_7 _ has2)) runs in
    let seventh = one_then (suc count) _ _ last (cleared switches _ _ (plain_order I 0) _ (off passed2 (carriage_return ∷ rest)) _ _ (fetch_store words place has within) is) eighth in
    let fifth = two_orders switches _ control (plain_order H single_store_cell) _ passed1 [] (carriage_return ∷ rest) _ (suc (suc count)) last (fetch_4 _ has1) (fetch_5 _ has1) (omega arith) nothing_skipped is seventh in
    let fourth = one_then (suc (suc (suc (suc count)))) _ _ last (held switches (loader_base + 3) control (plain_order T single_end_place) words (off passed1 left) (plain_order H single_store_cell) single_store_cell (fetch_3 _ has) (control_is_word _ within)) fifth in
    let third = one_then (suc (suc (suc (suc (suc count))))) _ _ last (goes_on switches (loader_base + 2) control (plain_order I 0) words (off passed1 left) (plain_order T single_end_place) single_end_place (fetch_2 _ has) refl (control_is_positive _ within)) fourth in
    two_orders switches _ _ _ _ _ _ _ _ (suc (suc (suc (suc (suc (suc count)))))) last (fetch_0 _ has) (fetch_1 _ has) (omega arith) are (control_is_word _ within) third

-- the end word
end_is_word : (start : Option ℕ) → IfSome start IsAddress → IsWord (end_word start)
end_is_word None is = (omega arith, omega arith)
end_is_word (Some address) is = (omega (arith, is), omega (arith, is))

end_is_negative : (start : Option ℕ) → sign_of (end_word start) ≡ true
end_is_negative None = refl
end_is_negative (Some address) = grind (arith, nat_tests)

-- the core at the end, where a machine has stopped with this counter
abbrev pub core_at_end : ℕ → Switches → Option ℕ → List ℕ → List ℕ → Core
core_at_end stopped switches start words passed = core_of (record {
  counter = unwrap_or start stopped;
  accumulator = end_word start;
  register = end_word start;
  status = status_after_load start;
  mode = Normal;
  switches = record switches { six_bit = false };
}) words (off passed [])

end_stops : (words : List ℕ) (cell : ℕ) → slice_index words cell ≡ end_word None → Fetches words cell (end_word None) Z 0
unfolding op_of
end_stops words cell here = record { here = here; is_op = refl; is_at = refl }

end_jumps : (words : List ℕ) (cell address : ℕ) → slice_index words cell ≡ end_word (Some address) → IsAddress address → Fetches words cell (end_word (Some address)) U address
unfolding op_of
end_jumps words cell address here within = record {
  here = here;
  is_op = let number : end_word (Some address) / 65536 % 16 ≡ 10 = omega (arith, within) in rw number refl;
  is_at = omega (arith, within);
}

end_performed : (switches : Switches) (start : Option ℕ) (words passed : List ℕ) (cell register : ℕ) → IfSome start IsAddress → slice_index words cell ≡ end_word start
    → Runs 1 (core_at switches cell (end_word start) register words (off passed [])) (core_at_end (address_after cell) switches start words passed)
end_performed switches None words passed cell register is here =
    one_then 0 _ _ _
    (stops switches _ _ _ _ _ _ (end_stops _ _ here)) refl
end_performed switches (Some address) words passed cell register is here =
    one_then 0 _ _ _
    (jumps switches _ _ _ _ _ _ _ (end_jumps _ _ _ here is)) refl

-- the end word is read at the base, put into the end cell, and performed
pub end_read : (place : ℕ) (switches : Switches) (accumulator register : ℕ) (words passed skipped : List ℕ) (start : Option ℕ)
    → Fetches words loader_base (plain_order P 0) P 0 → Fetches words (loader_base + 1) (plain_order I 0) I 0
    → Fetches words (loader_base + 2) (plain_order T place) T place → Fetches words place (plain_order H (address_after place)) H (address_after place)
    → place < 4096 → length words ≡ 4096 → AreSkipped skipped → IfSome start IsAddress
    → Runs 5 (core_at switches loader_base accumulator register words (off passed ((skipped ++ word_codes (end_word start)) ++ stop_code ∷ [])))
    (core_at_end (address_after (address_after place)) switches start (slice_set words (address_after place) (end_word start)) (passed ++ read_codes skipped (end_word start)))
end_read place switches accumulator register words passed skipped start p i t h within long are is =
    let word = end_word start in
    let cell = address_after place in
    let passed1 = passed ++ read_codes skipped _ in
    let here = get_or-set_same words cell word 0 (omega (arith, long)) in
    let fifth = end_performed switches _ _ _ _ _ is here in
    let fourth = one_then 1 _ _ _ (held switches place word (plain_order T place) words (off passed1 []) (plain_order H cell) cell h (end_is_word _ is)) fifth in
    let plus : sign_of (plain_order T place) ≡ false = grind (arith, nat_tests) in
    let third = one_then 2 _ _ _ (transfers_to switches _ _ _ _ _ _ _ t plus (end_is_negative _)) fourth in
    two_orders switches _ _ _ _ _ _ [] _ 3 _ p i (omega arith) are (end_is_word _ is) third

-- the core at the end of the ten words
abbrev pub final_core : Switches → Option ℕ → List ℕ → List ℕ → Core
final_core = core_at_end (single_end_cell + 1)

the_end : (switches : Switches) (accumulator register : ℕ) (words passed skipped : List ℕ) (start : Option ℕ)
    → HasLoader words → AreSkipped skipped → IfSome start IsAddress
    → Runs 5 (core_at switches loader_base accumulator register words (off passed ((skipped ++ word_codes (end_word start)) ++ stop_code ∷ [])))
    (final_core switches start (slice_set words single_end_cell (end_word start)) (passed ++ read_codes skipped (end_word start)))
the_end switches accumulator register words passed skipped start has are is =
    end_read single_end_place switches accumulator register words passed skipped start (fetch_0 words has) (fetch_1 words has) (fetch_2 words has) (fetch_8 words has)
    (omega arith) has.drum are is

-- the drum after some cells
unfoldable pub words_after_cells : List ℕ → List (ℕ × ℕ) → List ℕ
words_after_cells words [] = words
words_after_cells words ((place, word) ∷ cells) = words_after_cells (words_after_cell words place word) cells

abbrev pub tape_left : List ℕ → List (ℕ × ℕ) → Option ℕ → List ℕ
tape_left skipped cells start = skipped ++ (concat (map cell_codes cells) ++ stopped_word (end_word start))

shape : (skipped control word rest end : List ℕ)
    → skipped ++ ((((control ++ stop_code ∷ []) ++ ((word ++ stop_code ∷ []) ++ carriage_return ∷ [])) ++ rest) ++ end)
    ≡ (skipped ++ control) ++ stop_code ∷ (word ++ stop_code ∷ (carriage_return ∷ (rest ++ end)))
shape skipped _ _ _ _ = simp append_assoc refl

passed_shape : (passed skipped control word rest : List ℕ)
    → ((passed ++ ((skipped ++ control) ++ stop_code ∷ [])) ++ (([] ++ word) ++ stop_code ∷ [])) ++ (carriage_return ∷ rest)
    ≡ passed ++ ((skipped ++ control) ++ stop_code ∷ (word ++ stop_code ∷ (carriage_return ∷ rest)))
passed_shape passed skipped _ _ _ = simp append_assoc refl

end_shape : (skipped word : List ℕ) → skipped ++ (word ++ stop_code ∷ []) ≡ (skipped ++ word) ++ stop_code ∷ []
end_shape skipped _ = sym (append_assoc skipped _ _)

pub through_tape : (switches : Switches) (accumulator register : ℕ) (words passed skipped : List ℕ) (cells : List (ℕ × ℕ)) (start : Option ℕ)
    → HasLoader words → AreSkipped skipped → AreProgramCells cells → IfSome start IsAddress
    → Runs (8 * length cells + 5) (core_at switches loader_base accumulator register words (off passed (tape_left skipped cells start)))
    (final_core switches start (slice_set (words_after_cells words cells) single_end_cell (end_word start)) (passed ++ tape_left skipped cells start))
unfolding words_after_cells
through_tape switches accumulator register words passed skipped [] start has are cells is =
    subst (λ left. Runs 5 (core_at switches loader_base accumulator register words (off passed left))
    (final_core switches start (slice_set words single_end_cell (end_word start)) (passed ++ left)))
    (sym (end_shape skipped (word_codes (end_word start))))
    (the_end switches _ _ _ _ _ _ has are is)
through_tape switches accumulator register words passed skipped ((place, word) ∷ cells) start has are ((within, free, is_word), others) is =
    let words2 = words_after_cell words place word in
    let has2 = loader_stays _ _ _ (loader_stays _ _ _ has store_cell_elsewhere) (program_elsewhere _ free) in
    let passed2 = (passed ++ read_codes skipped _) ++ read_codes [] word in
    let rest = concat (map cell_codes cells) ++ stopped_word (end_word start) in
    let words_last = slice_set (words_after_cells words2 cells) single_end_cell (end_word start) in
    let later = through_tape switches 0 (plain_order U loader_base) words2 passed2 (carriage_return ∷ []) cells start has2 return_skipped others is in
    let left = shape _ _ _ _ _ in
    let whole : passed2 ++ (carriage_return ∷ rest) ≡ passed ++ tape_left skipped ((place, word) ∷ cells) start =
    passed_shape _ skipped _ _ _ ∙ ap (λ codes. passed ++ codes) (sym left) in
    let last = final_core switches start words_last (passed ++ tape_left skipped ((place, word) ∷ cells) start) in
    let onward = subst (λ codes. Runs (8 * length cells + 5) (core_at switches loader_base 0 (plain_order U loader_base) words2 (off passed2 (carriage_return ∷ rest))) (final_core switches start words_last codes)) whole later in
    let all = one_cell switches accumulator register words passed skipped _ _ _ _ _ has are within free is_word onward in
    let count : suc (suc (suc (suc (suc (suc (suc (suc (8 * length cells + 5)))))))) ≡ 8 * length ((place, word) ∷ cells) + 5 = omega arith in
    let there = subst (λ n. Runs n (core_at switches loader_base accumulator register words (off passed (cell_left skipped place word rest))) last) count all in
    subst (λ codes. Runs (8 * length ((place, word) ∷ cells) + 5) (core_at switches loader_base accumulator register words (off passed codes)) last) (sym left) there

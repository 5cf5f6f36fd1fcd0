-- The lines of a dump read back.
use Rattle.std.proofs.Common.{◌≡◌, ◌≢◌, ◌++◌, ◌&&◌, ◌==◌, ℕ, Bool, true, false, List, [], ◌∷◌, length, take, drop, get_or, Option, Some, None, refl, sym, ap, ◌∙◌, arith, cond, slice_index}
use Rattle.std.proofs.lemmas.Bool.{and_parts, eqb-true, cond-false}
use Rattle.std.proofs.lemmas.List.{append_assoc, drop_more, drop-drop, take-append-drop, drop_all}
use Rattle.lgp_word.specs.Address.{IsAddress}
use Rattle.lgp_word.specs.Word.{IsWord}
use Rattle.lgp_word.specs.Digits.{digits_of, four_digits, address_digits, address_text, word_of_digits}
use Rattle.lgp_word.proofs.DigitLemmas.{word_of_digits-digits_of, digits_of-word_of_digits}
use Rattle.lgp_word.proofs.TextLemmas.{address_text-address_digits, address_digits-address_text, IsWord-word_of_digits}
use Rattle.lgp_listing.specs.Dump.{cell_line, used_cell, cell_in}
use Rattle.lgp_listing.specs.Laws.{IsLineOf}

-- a line of a dump is read as its address and its word
pub cell_in-cell_line : (address word : ℕ) → IsAddress address → IsWord word → word ≢ 0 → cell_in (cell_line address word) ≡ Some (address, word)
unfolding cell_in digits_of four_digits
cell_in-cell_line address word is_address is_word some =
    grind (arith, address_text-address_digits, word_of_digits-digits_of, cond-false)

-- the two that a line in form has
cell_parts : (a w : Option ℕ) (cell : ℕ × ℕ) → used_cell a w ≡ Some cell → (a ≡ Some cell.0) × (w ≡ Some cell.1) × (cell.1 ≢ 0)
cell_parts None w cell e = cc
cell_parts (Some address) None cell e = cc
cell_parts (Some address) (Some word) cell e = pick (word == 0) refl e
  where
    pick : (b : Bool) → (word == 0) ≡ b → cond b None (Some (address, word)) ≡ Some cell → (Some address ≡ Some cell.0) × (Some word ≡ Some cell.1) × (cell.1 ≢ 0)
    pick true is read = cc
    pick false is read =
        let same : (address, word) ≡ cell = cc (read) in
        (ap (λ c. Some c.0) same, ap (λ c. Some c.1) same, λ zero. (let word_is : word ≡ 0 = ap (λ c. c.1) same ∙ zero in true_false (sym (eq word_is) ∙ is)))
      where
        eq : word ≡ 0 → (word == 0) ≡ true
        eq e = ap (λ n. n == 0) e

        true_false : true ≡ false → ⊥
        true_false e = cc

-- the parts of a line of 14 bytes
line_parts : (line : List ℕ) → length line ≡ 14 → line ≡ take 4 line ++ get_or line 4 0 ∷ [] ++ take 8 (drop 5 line) ++ get_or line 13 0 ∷ []
line_parts line size =
    let eight = take 8 (drop 5 line) in
    let left : drop 14 line ≡ [] = drop_all 14 line (omega arith) in
    let last : drop 13 line ≡ get_or line 13 0 ∷ [] = drop_more line 13 0 (omega arith) ∙ ap (λ t. get_or line 13 0 ∷ t) left in
    let digits : drop 5 line ≡ eight ++ get_or line 13 0 ∷ [] = sym (take-append-drop 8 (drop 5 line)) ∙ ap (λ t. eight ++ t) (drop-drop 8 5 line ∙ last) in
    let after : drop 4 line ≡ get_or line 4 0 ∷ (eight ++ get_or line 13 0 ∷ []) = drop_more line 4 0 (omega arith) ∙ ap (λ t. get_or line 4 0 ∷ t) digits in
    sym (take-append-drop 4 line) ∙ ap (λ t. take 4 line ++ t) after
    ∙ sym (append_assoc (take 4 line ++ get_or line 4 0 ∷ []) eight (get_or line 13 0 ∷ []) ∙ append_assoc (take 4 line) (get_or line 4 0 ∷ []) (eight ++ get_or line 13 0 ∷ []))

kept : (b : Bool) (o : Option (ℕ × ℕ)) (cell : ℕ × ℕ) → cond b o None ≡ Some cell → (b ≡ true) × (o ≡ Some cell)
kept true o cell e = (refl, e)
kept false o cell e = cc

-- what is read as an address and a word is their line
pub cell_line-cell_in : (line : List ℕ) (cell : ℕ × ℕ) → cell_in line ≡ Some cell → IsLineOf cell line
unfolding cell_in
cell_line-cell_in line cell read =
    let form = kept (length line == 14 && slice_index line 4 == 32 && slice_index line 13 == 10) (used_cell (address_text (take 4 line)) (word_of_digits (take 8 (drop 5 line)))) cell read in
    let two = and_parts (length line == 14 && slice_index line 4 == 32) (slice_index line 13 == 10) form.0 in
    let one = and_parts (length line == 14) (slice_index line 4 == 32) two.0 in
    let parts = cell_parts _ _ _ form.1 in
    let address = address_digits-address_text _ _ parts.0 in
    let digits = digits_of-word_of_digits _ _ parts.1 in
    let space : get_or line 4 0 ≡ 32 = eqb-true _ _ one.1 in
    let feed : get_or line 13 0 ≡ 10 = eqb-true _ _ two.1 in
    record {
      address_is = address.0;
      word_is = IsWord-word_of_digits (take 8 (drop 5 line)) cell.1 parts.1;
      some = parts.2;
      line_is = line_parts _ (eqb-true _ _ one.0)
          ∙ ap (λ b. take 4 line ++ b ∷ [] ++ take 8 (drop 5 line) ++ get_or line 13 0 ∷ []) space
          ∙ ap (λ b. take 4 line ++ 32 ∷ [] ++ take 8 (drop 5 line) ++ b ∷ []) feed
          ∙ ap (λ t. t ++ 32 ∷ [] ++ take 8 (drop 5 line) ++ 10 ∷ []) (sym address.1)
          ∙ ap (λ t. address_digits cell.0 ++ 32 ∷ [] ++ t ++ 10 ∷ []) (sym digits);
    }

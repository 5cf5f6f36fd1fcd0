-- Address texts read back, and what is read from eight digits is a word.
use Rattle.std.proofs.Common.{◌≡◌, ◌<◌, ◌≤◌, ◌+◌, ◌-◌, ◌*◌, ◌/◌, ◌%◌, ◌^◌, ◌&&◌, ◌==◌, ℕ, true, List, [], ◌∷◌, length, Some, None, Option, IfSome, refl, sym, arith, cond, eqb, nat_lt, option_and_then}
use Rattle.std.specs.Char.{is_ascii_digit}
use Rattle.std.specs.List.{list_all}
use Rattle.std.proofs.lemmas.Bool.{and_parts, and_from, eqb-true, ltb-true, cond-true}
use Rattle.std.proofs.lemmas.Option.{cond_some, none-some}
use Rattle.lgp_word.specs.Address.{IsAddress}
use Rattle.lgp_word.specs.Word.{IsWord}
use Rattle.lgp_word.specs.Digits.{address_digits, address_text, two_at, number_of, word_of_digits}
use Rattle.lgp_word.proofs.DigitLemmas.{between, digits_of-number_of, kept}

digit : (d : ℕ) → d < 10 → is_ascii_digit (48 + d) ≡ true
digit d small = grind (arith, and_from)

is_digit : (b : ℕ) → is_ascii_digit b ≡ true → (48 ≤ b) × (b ≤ 57)
is_digit b e =
    grind arith

-- an address is read from its text
pub address_text-address_digits : (number : ℕ) → IsAddress number → address_text (address_digits number) ≡ Some number
address_text-address_digits number small =
    grind (arith, and_from, digit, cond-true)

-- what is read as an address is its text
pub address_digits-address_text : (text : List ℕ) (number : ℕ) → address_text text ≡ Some number → IsAddress number × (address_digits number ≡ text)
address_digits-address_text (a ∷ b ∷ c ∷ d ∷ []) number read =
    let text = a ∷ b ∷ c ∷ d ∷ [] in
    let read_so = cond_some _ _ _ read in
    let second = and_parts (list_all is_ascii_digit text && nat_lt (two_at text 0) 64) (nat_lt (two_at text 2) 64) read_so.0 in
    let first = and_parts (list_all is_ascii_digit text) (nat_lt (two_at text 0) 64) second.0 in
    let track : two_at text 0 < 64 = ltb-true _ _ first.1 in
    let sector : two_at text 2 < 64 = ltb-true _ _ second.1 in
    let from_a = and_parts (is_ascii_digit a) (list_all is_ascii_digit (b ∷ c ∷ d ∷ [])) first.0 in
    let from_b = and_parts (is_ascii_digit b) (list_all is_ascii_digit (c ∷ d ∷ [])) from_a.1 in
    let from_c = and_parts (is_ascii_digit c) (list_all is_ascii_digit (d ∷ [])) from_b.1 in
    let from_d = and_parts (is_ascii_digit d) true from_c.1 in
    let at_a = is_digit a from_a.0 in
    let at_b = is_digit b from_b.0 in
    let at_c = is_digit c from_c.0 in
    let at_d = is_digit d from_d.0 in
    let is : 64 * (10 * (a - 48) + (b - 48)) + (10 * (c - 48) + (d - 48)) ≡ number = read_so.1 in
    let is_a : 48 + number / 64 / 10 ≡ a = omega arith in
    let is_b : 48 + number / 64 % 10 ≡ b = omega arith in
    let is_c : 48 + number % 64 / 10 ≡ c = omega arith in
    let is_d : 48 + number % 64 % 10 ≡ d = omega arith in
    (omega arith, rw (is_a, is_b, is_c, is_d) refl)
address_digits-address_text [] number read = absurd (none-some number read)
address_digits-address_text (a ∷ []) number read = absurd (none-some number read)
address_digits-address_text (a ∷ b ∷ []) number read = absurd (none-some number read)
address_digits-address_text (a ∷ b ∷ c ∷ []) number read = absurd (none-some number read)
address_digits-address_text (a ∷ b ∷ c ∷ d ∷ e ∷ rest) number read =
    let text = a ∷ b ∷ c ∷ d ∷ e ∷ rest in
    let third = (cond_some _ _ _ read).0 in
    let second = (and_parts (length text == 4 && list_all is_ascii_digit text && nat_lt (two_at text 0) 64) (nat_lt (two_at text 2) 64) third).0 in
    let first = (and_parts (length text == 4 && list_all is_ascii_digit text) (nat_lt (two_at text 0) 64) second).0 in
    let long : length text ≡ 4 = eqb-true _ _ (and_parts (length text == 4) (list_all is_ascii_digit text) first).0 in
    absurd (omega (arith, long))

-- the same of the answer of a reader
pub IfSome-address_text : (answer : Option ℕ) (text : List ℕ) → answer ≡ address_text text → IfSome answer (λ number. address_digits number ≡ text)
IfSome-address_text None text e = tt
IfSome-address_text (Some number) text e = (address_digits-address_text _ _ (sym e)).1

-- what is read from eight digits is a word
pub IsWord-word_of_digits : (text : List ℕ) (word : ℕ) → word_of_digits text ≡ Some word → IsWord word
unfolding word_of_digits
IsWord-word_of_digits text word e =
    let long = kept (eqb (length text) 8) (option_and_then (λ number. cond (eqb (number % 2) 0) (Some number) None) (number_of 0 text)) word e in
    let read = between _ _ _ long.1 in
    let same = kept (eqb (read.0 % 2) 0) (Some read.0) word read.2 in
    let is_word : read.0 ≡ word = cc (same.1) in
    let even : read.0 % 2 ≡ 0 = eqb-true _ _ same.0 in
    let small : read.0 < 2 ^ 32 = (digits_of-number_of _ _ (eqb-true _ _ long.0) read.1).0 in
    (rw (← is_word) small, rw (← is_word) even)

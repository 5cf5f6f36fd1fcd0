-- Digits are read as they were written.
use Rattle.std.proofs.Common.{◌≡◌, ℕ, zero, suc, ◌+◌, ◌*◌, ◌/◌, ◌%◌, ◌<◌, ◌^◌, Option, Some, None, List, [], ◌∷◌, ◌++◌, length, refl, sym, ap, ◌∙◌, arith, option_and_then, Bool, true, false, eqb, cond, IfSome}
use Rattle.std.proofs.lemmas.List.Quantifiers.{position-Some}
use Rattle.std.proofs.lemmas.Bool.{eqb-true}
use Rattle.std.proofs.lemmas.List.{append-nil}
use Rattle.lgp_word.specs.Digits.{digits, digit_byte, digit_value, four_digits, digits_of, number_of, word_of_digits}
use Rattle.lgp_word.specs.Word.{IsWord}

-- each of the sixteen values is read from its digit
pub digit_value-digit_byte : (value : ℕ) → value < 16 → digit_value (digit_byte value) ≡ Some value
unfolding digit_value digit_byte
digit_value-digit_byte zero h = refl
digit_value-digit_byte (suc zero) h = refl
digit_value-digit_byte (suc (suc zero)) h = refl
digit_value-digit_byte (suc (suc (suc zero))) h = refl
digit_value-digit_byte (suc (suc (suc (suc zero)))) h = refl
digit_value-digit_byte (suc (suc (suc (suc (suc zero))))) h = refl
digit_value-digit_byte (suc (suc (suc (suc (suc (suc zero)))))) h = refl
digit_value-digit_byte (suc (suc (suc (suc (suc (suc (suc zero))))))) h = refl
digit_value-digit_byte (suc (suc (suc (suc (suc (suc (suc (suc zero)))))))) h = refl
digit_value-digit_byte (suc (suc (suc (suc (suc (suc (suc (suc (suc zero))))))))) h = refl
digit_value-digit_byte (suc (suc (suc (suc (suc (suc (suc (suc (suc (suc zero)))))))))) h = refl
digit_value-digit_byte (suc (suc (suc (suc (suc (suc (suc (suc (suc (suc (suc zero))))))))))) h = refl
digit_value-digit_byte (suc (suc (suc (suc (suc (suc (suc (suc (suc (suc (suc (suc zero)))))))))))) h = refl
digit_value-digit_byte (suc (suc (suc (suc (suc (suc (suc (suc (suc (suc (suc (suc (suc zero))))))))))))) h = refl
digit_value-digit_byte (suc (suc (suc (suc (suc (suc (suc (suc (suc (suc (suc (suc (suc (suc zero)))))))))))))) h = refl
digit_value-digit_byte (suc (suc (suc (suc (suc (suc (suc (suc (suc (suc (suc (suc (suc (suc (suc zero))))))))))))))) h = refl
digit_value-digit_byte (suc (suc (suc (suc (suc (suc (suc (suc (suc (suc (suc (suc (suc (suc (suc (suc n)))))))))))))))) h = absurd (omega arith)

-- a byte that is read is the digit of its value
pub digit_byte-digit_value : (byte value : ℕ) → digit_value byte ≡ Some value → (value < 16) × (digit_byte value ≡ byte)
unfolding digit_value digit_byte
digit_byte-digit_value byte value e =
    let found = position-Some (λ digit. eqb digit byte) digits value 0 e in
    (found.0, eqb-true _ _ found.1)

-- four digits are read as their number
pub number_of-four_digits : (before number : ℕ) (rest : List ℕ) → number < 65536 → number_of before (four_digits number ++ rest) ≡ number_of (65536 * before + number) rest
unfolding four_digits
number_of-four_digits before number rest small =
    grind (arith, digit_value-digit_byte)

-- what a chain of two options that succeeds has in between
pub between : (o : Option ℕ) (f : ℕ → Option ℕ) (n : ℕ) → option_and_then f o ≡ Some n → (v : ℕ) × (o ≡ Some v) × (f v ≡ Some n)
between None f n e = cc
between (Some v) f n e = (v, refl, e)

-- what is read as four digits is their number's
four_digits-number_of : (before a b c d : ℕ) (rest : List ℕ) (n : ℕ) → number_of before (a ∷ b ∷ c ∷ d ∷ rest) ≡ Some n → (h : ℕ) × (h < 65536) × (four_digits h ≡ a ∷ b ∷ c ∷ d ∷ []) × (number_of (65536 * before + h) rest ≡ Some n)
unfolding four_digits
four_digits-number_of before a b c d rest n e =
    let first = between _ _ n e in
    let second = between _ _ n first.2 in
    let third = between _ _ n second.2 in
    let fourth = between _ _ n third.2 in
    let at_a = digit_byte-digit_value a _ first.1 in
    let at_b = digit_byte-digit_value b _ second.1 in
    let at_c = digit_byte-digit_value c _ third.1 in
    let at_d = digit_byte-digit_value d _ fourth.1 in
    let h : ℕ = 4096 * first.0 + 256 * second.0 + 16 * third.0 + fourth.0 in
    let is_a : h / 4096 % 16 ≡ first.0 = omega arith in
    let is_b : h / 256 % 16 ≡ second.0 = omega arith in
    let is_c : h / 16 % 16 ≡ third.0 = omega arith in
    let is_d : h % 16 ≡ fourth.0 = omega arith in
    let sum : 65536 * before + h ≡ 16 * (16 * (16 * (16 * before + first.0) + second.0) + third.0) + fourth.0 = omega arith in
    (h, omega arith, rw (is_a, is_b, is_c, is_d, at_a.1, at_b.1, at_c.1, at_d.1) refl, rw sum fourth.2)

-- eight digits are read as their number
number_of-digits_of : (number : ℕ) → number < 2 ^ 32 → number_of 0 (digits_of number) ≡ Some number
unfolding digits_of
number_of-digits_of number small =
    let high : number / 65536 < 65536 = omega arith in
    let low : number % 65536 < 65536 = omega arith in
    let sum : 65536 * (65536 * 0 + number / 65536) + number % 65536 ≡ number = omega arith in
    let first = number_of-four_digits 0 _ _ high in
    let second = number_of-four_digits _ _ [] low in
    first ∙ (ap (number_of (65536 * 0 + number / 65536)) (sym (append-nil (four_digits (number % 65536)))) ∙ (second ∙ ap Some sum))

length-digits_of : (number : ℕ) → length (digits_of number) ≡ 8
unfolding digits_of four_digits
length-digits_of number = refl

-- a word is read from its digits
pub word_of_digits-digits_of : (word : ℕ) → IsWord word → word_of_digits (digits_of word) ≡ Some word
unfolding word_of_digits
word_of_digits-digits_of word h =
    grind (arith, length-digits_of, number_of-digits_of)

-- what is read as eight digits is their number's
pub digits_of-number_of : (text : List ℕ) (number : ℕ) → length text ≡ 8 → number_of 0 text ≡ Some number → (number < 2 ^ 32) × (digits_of number ≡ text)
unfolding digits_of
digits_of-number_of (a ∷ b ∷ c ∷ d ∷ e ∷ f ∷ g ∷ h ∷ []) number long read =
    let first = four_digits-number_of 0 a b c d (e ∷ f ∷ g ∷ h ∷ []) number read in
    let second = four_digits-number_of (65536 * 0 + first.0) e f g h [] number first.3 in
    let is_number : 65536 * (65536 * 0 + first.0) + second.0 ≡ number = cc in
    let high : number / 65536 ≡ first.0 = omega arith in
    let low : number % 65536 ≡ second.0 = omega arith in
    (omega arith, rw (high, low, first.2, second.2) refl)
digits_of-number_of [] number long read = absurd (omega arith)
digits_of-number_of (a ∷ []) number long read = absurd (omega arith)
digits_of-number_of (a ∷ b ∷ []) number long read = absurd (omega arith)
digits_of-number_of (a ∷ b ∷ c ∷ []) number long read = absurd (omega arith)
digits_of-number_of (a ∷ b ∷ c ∷ d ∷ []) number long read = absurd (omega arith)
digits_of-number_of (a ∷ b ∷ c ∷ d ∷ e ∷ []) number long read = absurd (omega arith)
digits_of-number_of (a ∷ b ∷ c ∷ d ∷ e ∷ f ∷ []) number long read = absurd (omega arith)
digits_of-number_of (a ∷ b ∷ c ∷ d ∷ e ∷ f ∷ g ∷ []) number long read = absurd (omega arith)
digits_of-number_of (a ∷ b ∷ c ∷ d ∷ e ∷ f ∷ g ∷ h ∷ i ∷ rest) number long read = absurd (omega arith)

-- an option that is kept by a test, and passed it
pub kept : (b : Bool) (o : Option ℕ) (word : ℕ) → cond b o None ≡ Some word → (b ≡ true) × (o ≡ Some word)
kept true o word e = (refl, e)
kept false o word e = cc

-- a text that is read as a word is its digits
pub digits_of-word_of_digits : (text : List ℕ) (word : ℕ) → word_of_digits text ≡ Some word → digits_of word ≡ text
unfolding word_of_digits
digits_of-word_of_digits text word e =
    grind (arith, between, digits_of-number_of)

-- the same of the answer of a reader
pub IfSome-word_of_digits : (answer : Option ℕ) (text : List ℕ) → answer ≡ word_of_digits text → IfSome answer (λ word. digits_of word ≡ text)
IfSome-word_of_digits None text e = tt
IfSome-word_of_digits (Some word) text e = digits_of-word_of_digits _ _ (sym e)

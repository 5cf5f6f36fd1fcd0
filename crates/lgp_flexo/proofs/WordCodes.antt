-- The codes of a word: their signs, and what they enter as.
use Rattle.std.proofs.Common.{◌≡◌, ℕ, ◌+◌, ◌*◌, ◌/◌, ◌%◌, ◌^◌, ◌<◌, Bool, true, false, refl, sym, ap, ◌∙◌, arith, ◌++◌, map, Some, filter, fold}
use Rattle.std.specs.List.{list_any}
use Rattle.std.proofs.lemmas.Bool.Decides.{nat_tests}
use Rattle.std.proofs.lemmas.List.Elements.{filter-append}
use Rattle.std.proofs.lemmas.List.Sums.{fold-append}
use Rattle.std.proofs.lemmas.List.Folds.{list_any-append}
use Rattle.std.proofs.lemmas.List.{map-append}
use Rattle.lgp_flexo.proofs.Writing.{all_below, all_below-at, found-code, is_piece}
use Rattle.lgp_word.specs.Digits.{digit_byte, digits_of, four_digits}
use Rattle.lgp_flexo.specs.Code.{is_skipped, is_stop, sign_at}
use Rattle.lgp_flexo.specs.Input.{accumulator_after, accumulator_after_all, enters}
use Rattle.lgp_flexo.specs.WordCodes.{digit_code, four_digit_codes, word_codes}

pub digit_is_no_stop : (value : ℕ) → is_stop (digit_code value) ≡ false
digit_is_no_stop value = grind (arith, nat_tests)

pub digit_not_skipped : (value : ℕ) → is_skipped (digit_code value) ≡ false
digit_not_skipped value =
    grind arith

pub digit_enters : (value : ℕ) → enters (digit_code value) ≡ true
digit_enters value = rw (digit_not_skipped _, digit_is_no_stop _) refl

-- a digit entered at the right-hand end: only the last 32 bits of what was there before matter
digit_entered : (value accumulator before : ℕ) → accumulator % 2 ^ 32 ≡ before % 2 ^ 32
    → accumulator_after false accumulator (digit_code value) % 2 ^ 32 ≡ (16 * before + value) % 2 ^ 32
digit_entered value accumulator before is = omega arith

four_enter : (number accumulator before : ℕ) → accumulator % 2 ^ 32 ≡ before % 2 ^ 32 → number < 65536
    → fold (accumulator_after false) accumulator (four_digit_codes number) % 2 ^ 32 ≡ (65536 * before + number) % 2 ^ 32
unfolding four_digit_codes
four_enter number accumulator before is small =
    grind (arith, digit_entered)

four_small : (number accumulator : ℕ) → fold (accumulator_after false) accumulator (four_digit_codes number) < 2 ^ 32
unfolding four_digit_codes
four_small number accumulator = omega arith

-- the keys of a word, struck one after another
pub word_keyed : (word accumulator : ℕ) → word < 2 ^ 32 → fold (accumulator_after false) accumulator (word_codes word) ≡ word
unfolding word_codes
word_keyed word accumulator small =
    let high = fold (accumulator_after false) accumulator (four_digit_codes (word / 65536)) in
    let first = four_enter (word / 65536) accumulator accumulator refl (omega arith) in
    let second = four_enter (word % 65536) high _ first (omega arith) in
    let less = four_small (word % 65536) high in
    let all = fold-append (accumulator_after false) accumulator (four_digit_codes (word / 65536)) (four_digit_codes (word % 65536)) in
    all ∙ omega arith

four_unfiltered : (number : ℕ) → filter enters (four_digit_codes number) ≡ four_digit_codes number
unfolding four_digit_codes
four_unfiltered number =
    grind (arith, digit_enters)

pub word_unfiltered : (word : ℕ) → filter enters (word_codes word) ≡ word_codes word
unfolding word_codes
word_unfiltered word =
    grind (arith, filter-append, four_unfiltered)

pub word_entered : (word accumulator : ℕ) → word < 2 ^ 32 → accumulator_after_all false accumulator (word_codes word) ≡ word
word_entered word accumulator small =
    grind (arith, word_unfiltered, word_keyed)

four_do_not : (test : ℕ → Bool) → ((value : ℕ) → test (digit_code value) ≡ false) → (number : ℕ) → list_any test (four_digit_codes number) ≡ false
unfolding four_digit_codes
four_do_not test never _ =
    grind (arith, never)

-- what no digit does none of a word's codes does
word_does_not : (test : ℕ → Bool) → ((value : ℕ) → test (digit_code value) ≡ false) → (word : ℕ) → list_any test (word_codes word) ≡ false
unfolding word_codes
word_does_not test never _ =
    grind (arith, list_any-append, four_do_not, never)

pub word_not_skipped : (word : ℕ) → list_any is_skipped (word_codes word) ≡ false
word_not_skipped word = word_does_not _ digit_not_skipped _

pub word_no_stop : (word : ℕ) → list_any is_stop (word_codes word) ≡ false
word_no_stop word = word_does_not _ digit_is_no_stop _

signs_seen : all_below (λ value. is_piece (digit_byte value) (sign_at (digit_code value))) 16 ≡ true
unfolding sign_at digit_byte
signs_seen = refl

digit_sign : (value : ℕ) → value < 16 → sign_at (digit_code value) ≡ Some (digit_byte value)
digit_sign value small =
    found-code _ _
    (all_below-at (λ value. is_piece (digit_byte value) (sign_at (digit_code value))) 16 _ signs_seen small)

four_signs : (number : ℕ) → map sign_at (four_digit_codes number) ≡ map Some (four_digits number)
unfolding four_digit_codes four_digits
four_signs number =
    grind (arith, digit_sign)

pub word_signs : (word : ℕ) → map sign_at (word_codes word) ≡ map Some (digits_of word)
unfolding word_codes digits_of
word_signs word =
    map-append sign_at (four_digit_codes (word / 65536)) (four_digit_codes (word % 65536))
    ∙ (ap (λ signs. signs ++ map sign_at (four_digit_codes (word % 65536))) (four_signs _)
    ∙ (ap (λ signs. map Some (four_digits (word / 65536)) ++ signs) (four_signs _)
    ∙ sym (map-append Some (four_digits (word / 65536)) (four_digits (word % 65536)))))

pub ruleset codes_of_words = (word_signs, word_not_skipped, word_no_stop, word_entered)

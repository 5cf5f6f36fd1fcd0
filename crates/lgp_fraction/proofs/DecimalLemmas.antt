-- Powers of ten, and that a fraction's text is read back.
use Rattle.std.proofs.Common.{◌≡◌, ℕ, ◌+◌, ◌*◌, ◌/◌, ◌%◌, ◌<◌, ◌≤◌, ◌^◌, Bool, true, false, if◌then◌else◌, ◌==◌, ℤ, pos, negsuc, neg_ℤ, int_le, int_lt, unsigned_abs, ⊎_elim, append-nil, List, [], ◌∷◌, ◌++◌, length, slice_index, Ok, arith, fold, refl, sym, ap, ◌∙◌, codes, IsTrue}
use mathlib.Core.Bool.{xor}
use Rattle.std.specs.Char.{is_ascii_digit}
use Rattle.lgp_word.specs.Decimal.{decimal_of, is_decimal, with_digit}
use Rattle.std.specs.Int.{is_negative}
use Rattle.std.proofs.Math.Nat.{one-le-pow, pow-le-pow_right}
use Rattle.std.proofs.lemmas.Bool.{and_parts, cases_Bool}
use Rattle.std.proofs.lemmas.Int.{ints, unsigned_abs-mul}
use Rattle.lgp_fraction.specs.Decimal.{decimal_fraction, decimal_text, five_digits, is_fraction, is_fraction_text, places, places_text, steps_of_text, ten_places, units_of}
use Rattle.lgp_fraction.specs.Rounding.{nearest, nearest_size, with_sign}
use Rattle.lgp_fraction.proofs.RoundingLemmas.{nearest-with_sign, not_negative, size-nearest}

pub power_of_ten-positive : (places : ℕ) → 0 < 10 ^ places
power_of_ten-positive places = let h = one-le-pow places 10 (omega arith) in omega (arith, h)

pub power_of_ten-size : (places : ℕ) → places ≤ 12 → 10 ^ places ≤ 10 ^ 12
power_of_ten-size places short = pow-le-pow_right (omega arith) short

-- a number below 2 has less than 2^32 steps
pub nearest_size-units : (units unit : ℕ) → 0 < unit → units < 2 * unit → nearest_size (units * 2 ^ 30) unit < 2 ^ 32
nearest_size-units units unit nonzero less = grind arith

-- ---- what is written is read back

is_digit : (number : ℕ) → is_ascii_digit (48 + number % 10) ≡ true
is_digit number = grind arith

-- a text by its sign and its ten digits
abbrev text_of : Bool → ℕ → List ℕ
text_of negative number = (if negative then 45 else 32) ∷ 46 ∷ (five_digits (number / 100000) ++ five_digits (number % 100000))

is_fraction_text-text_of : (negative : Bool) (number : ℕ) → is_fraction_text (text_of negative number) ≡ true
unfolding five_digits is_decimal
is_fraction_text-text_of true number = simp is_digit
is_fraction_text-text_of false number = simp is_digit

length-text_of : (negative : Bool) (number : ℕ) → length (places (text_of negative number)) ≡ 10
unfolding five_digits
length-text_of true number = refl
length-text_of false number = refl

is_minus-text_of : (negative : Bool) (number : ℕ) → (slice_index (text_of negative number) 0 == 45) ≡ negative
is_minus-text_of true number = refl
is_minus-text_of false number = refl

-- five digits are read as their number
number-five_digits : (before number : ℕ) (rest : List ℕ) → number < 100000 → fold with_digit before (five_digits number ++ rest) ≡ fold with_digit (100000 * before + number) rest
unfolding five_digits
number-five_digits before number rest small =
    grind arith

number-last_digits : (before number : ℕ) → number < 100000 → fold with_digit before (five_digits number) ≡ 100000 * before + number
number-last_digits before number small =
    ap (fold with_digit before) (sym (append-nil (five_digits number))) ∙ number-five_digits _ _ [] small

number-ten_digits : (number : ℕ) → number < 10 ^ 10 → decimal_of (five_digits (number / 100000) ++ five_digits (number % 100000)) ≡ number
unfolding decimal_of
number-ten_digits number small =
    grind (arith, number-five_digits, number-last_digits)

units_of-text_of : (negative : Bool) (number : ℕ) → number < 10 ^ 10 → units_of (text_of negative number) ≡ number
units_of-text_of true number small =
    grind (arith, number-ten_digits)
units_of-text_of false number small =
    grind (arith, number-ten_digits)

-- a fraction above -1, rounded to ten digits and back
comes_back : (size : ℕ) → size < 2 ^ 30 → nearest_size (nearest_size (size * 10 ^ 10) (2 ^ 30) * 2 ^ 30) (10 ^ 10) ≡ size
comes_back size small = omega arith

below_ten_digits : (size : ℕ) → size < 2 ^ 30 → nearest_size (size * 10 ^ 10) (2 ^ 30) < 10 ^ 10
below_ten_digits size small = omega arith

with_own_sign : (steps : ℤ) → with_sign (is_negative steps) (unsigned_abs steps) ≡ steps
with_own_sign (pos n) = rw (not_negative n) refl
with_own_sign (negsuc n) = refl

-- what a text with ten digits stands for
value-text_of : (negative : Bool) (number : ℕ) → number < 10 ^ 10 → steps_of_text (text_of negative number) ≡ with_sign negative (nearest_size (number * 2 ^ 30) (10 ^ 10))
unfolding steps_of_text
value-text_of negative number small =
    grind (arith, is_minus-text_of, units_of-text_of, length-text_of, nearest-with_sign)

-- the ten digits of a fraction above -1
ten_places-size : (steps : ℤ) → ten_places steps ≡ nearest_size (unsigned_abs steps * 10 ^ 10) (2 ^ 30)
ten_places-size steps =
    grind (arith, size-nearest, unsigned_abs-mul)

value-places_text : (steps : ℤ) → unsigned_abs steps < 2 ^ 30 → steps_of_text (text_of (is_negative steps) (ten_places steps)) ≡ steps
value-places_text steps small =
    grind (arith, ten_places-size, below_ten_digits, comes_back, value-text_of, with_own_sign)

above_minus_one : (steps : ℤ) → unsigned_abs steps < 2 ^ 30 → IsTrue (is_fraction steps) → decimal_fraction (places_text steps) ≡ Ok steps
unfolding decimal_fraction places_text
above_minus_one steps small fraction =
    grind (arith, is_fraction_text-text_of, value-places_text)

minus_one : decimal_fraction (codes "-1.000000000") ≡ Ok (neg_ℤ (pos (2 ^ 30)))
unfolding decimal_fraction steps_of_text nearest xor is_decimal decimal_of
minus_one = refl

pub decimal_fraction-decimal_text : (steps : ℤ) → IsTrue (is_fraction steps) → decimal_fraction (decimal_text steps) ≡ Ok steps
unfolding decimal_text
decimal_fraction-decimal_text steps fraction =
    let parts = and_parts (int_le (neg_ℤ (pos (2 ^ 30))) steps) (int_lt steps (pos (2 ^ 30))) fraction in
    ⊎_elim
    (λ (low : int_le steps (neg_ℤ (pos (2 ^ 30))) ≡ true).
    let same : steps ≡ neg_ℤ (pos (2 ^ 30)) = omega (arith, ints, parts.0) in
    rw same minus_one)
    (λ (above : int_le steps (neg_ℤ (pos (2 ^ 30))) ≡ false).
    let small : unsigned_abs steps < 2 ^ 30 = omega (arith, ints, parts.0, parts.1) in
    rw above (above_minus_one _ small fraction))
    (cases_Bool (int_le steps (neg_ℤ (pos (2 ^ 30)))))

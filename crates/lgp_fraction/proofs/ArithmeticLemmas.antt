-- The sizes of products and quotients of numbers of 31 bits.
use Rattle.std.proofs.Common.{◌≡◌, ℕ, suc, ◌+◌, ◌*◌, ◌/◌, ◌^◌, ◌<◌, ◌≤◌, true, ℤ, pos, negsuc, neg_ℤ, ◌*ℤ◌, ◌<ℤ◌, int_lt, int_le, unsigned_abs, ⊎_elim, refl, arith, lit<}
use Rattle.std.specs.Int.{int_div_euclid}
use Rattle.std.proofs.Math.Nat.{mul-le-mul, mul-le-mul_left, mul-le-mul_right}
use Rattle.std.proofs.lemmas.Bool.{cases_lt, or_cases}
use Rattle.std.proofs.lemmas.Int.{ints, unsigned_abs-mul}
use Rattle.lgp_fraction.specs.Arithmetic.{is_outside}
use Rattle.lgp_fraction.specs.Rounding.{nearest_size}

pub size-product : (left right : ℤ) (m n : ℕ) → unsigned_abs left ≤ m → unsigned_abs right ≤ n → unsigned_abs (left *ℤ right) ≤ m * n
size-product left right m n small_left small_right = rw (unsigned_abs-mul _ _) (mul-le-mul small_left small_right)

pub size-high_part : (product : ℤ) → unsigned_abs product ≤ 2 ^ 60 → unsigned_abs (int_div_euclid product (pos (2 ^ 30))) ≤ 2 ^ 30
size-high_part (pos n) small = omega arith
size-high_part (negsuc n) small = omega arith

-- the quotient of a number by a greater one is below 1
pub nearest_size-fraction : (dividend divisor : ℕ) → dividend < divisor → divisor ≤ 2 ^ 30 → nearest_size (dividend * 2 ^ 30) divisor < 2 ^ 30
nearest_size-fraction dividend divisor less small =
    grind arith

-- ---- the one product of fractions that is no fraction

outside-high_part : (product : ℤ) → unsigned_abs product ≤ 2 ^ 60 → is_outside (pos 2 *ℤ int_div_euclid product (pos (2 ^ 30))) ≡ true → 2 ^ 60 ≤ unsigned_abs product
outside-high_part (pos n) small outside =
    ⊎_elim
    (λ (low : int_lt (pos (2 * (n / 2 ^ 30))) (neg_ℤ (pos (2 ^ 31))) ≡ true). cc)
    (λ (high : int_le (pos (2 ^ 31)) (pos (2 * (n / 2 ^ 30))) ≡ true). omega (arith, ints))
    (or_cases (int_lt (pos (2 * (n / 2 ^ 30))) (neg_ℤ (pos (2 ^ 31)))) (int_le (pos (2 ^ 31)) (pos (2 * (n / 2 ^ 30)))) outside)
outside-high_part (negsuc n) small outside =
    ⊎_elim
    (λ (low : int_lt (neg_ℤ (pos (2 * suc (n / 2 ^ 30)))) (neg_ℤ (pos (2 ^ 31))) ≡ true). absurd (omega (arith, ints)))
    (λ (high : int_le (pos (2 ^ 31)) (neg_ℤ (pos (2 * suc (n / 2 ^ 30)))) ≡ true). absurd (omega (arith, ints)))
    (or_cases (int_lt (neg_ℤ (pos (2 * suc (n / 2 ^ 30)))) (neg_ℤ (pos (2 ^ 31)))) (int_le (pos (2 ^ 31)) (neg_ℤ (pos (2 * suc (n / 2 ^ 30))))) outside)

-- two numbers whose product is the square of their bound are at the bound
at_bound : (m n k : ℕ) → 0 < k → m ≤ k → n ≤ k → k * k ≤ m * n → m ≡ k
at_bound m n k positive small small_too square =
    ⊎_elim
    (λ (less : m < k).
    let most : m * n ≤ m * k = mul-le-mul_left m small_too in
    let step : (m + 1) * k ≤ k * k = mul-le-mul_right k (omega arith) in
    absurd (omega arith))
    (λ (least : k ≤ m). omega arith)
    (cases_lt m k)

lowest : (z : ℤ) → unsigned_abs z ≡ 2 ^ 30 → z <ℤ pos (2 ^ 30) → z ≡ neg_ℤ (pos (2 ^ 30))
lowest z size below = omega (arith, ints)

pub outside-product : (x y : ℤ) → unsigned_abs x ≤ 2 ^ 30 → unsigned_abs y ≤ 2 ^ 30 → x <ℤ pos (2 ^ 30) → y <ℤ pos (2 ^ 30) → is_outside (pos 2 *ℤ int_div_euclid (x *ℤ y) (pos (2 ^ 30))) ≡ true → (x ≡ neg_ℤ (pos (2 ^ 30))) × (y ≡ neg_ℤ (pos (2 ^ 30)))
outside-product x y small_x small_y below_x below_y outside =
    let large : 2 ^ 60 ≤ unsigned_abs (x *ℤ y) = outside-high_part (x *ℤ y) (size-product x y _ _ small_x small_y) outside in
    let square : 2 ^ 30 * 2 ^ 30 ≤ unsigned_abs x * unsigned_abs y = rw unsigned_abs-mul at large in
    let swapped : 2 ^ 30 * 2 ^ 30 ≤ unsigned_abs y * unsigned_abs x = omega (arith, square) in
    (lowest x (at_bound _ _ _ (lit< tt) small_x small_y square) below_x, lowest y (at_bound _ _ _ (lit< tt) small_y small_x swapped) below_y)

pub product-outside : (x y : ℤ) → x ≡ neg_ℤ (pos (2 ^ 30)) → y ≡ neg_ℤ (pos (2 ^ 30)) → is_outside (pos 2 *ℤ int_div_euclid (x *ℤ y) (pos (2 ^ 30))) ≡ true
product-outside x y is_x is_y = rw (is_x, is_y) refl

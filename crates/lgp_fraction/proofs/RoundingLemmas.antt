-- That the nearest is nearest, and that rounding twice comes back.
use Rattle.std.proofs.Common.{◌≡◌, ℕ, zero, suc, ◌+◌, ◌-◌, ◌*◌, ◌<◌, ◌≤◌, Bool, true, false, ℤ, pos, negsuc, neg_ℤ, ◌-ℤ◌, ◌*ℤ◌, unsigned_abs, refl, arith, ⊎_elim}
use mathlib.Core.Bool.{xor}
use Rattle.std.specs.Int.{is_negative}
use Rattle.std.proofs.Math.Nat.{div-mul-le_self, lt-div-mul-add, div-eq_of_lt, zero-mul}
use Rattle.std.proofs.lemmas.Bool.{cases_lt}
use Rattle.std.proofs.lemmas.Int.{ints, unsigned_abs-mul}
use Rattle.lgp_fraction.specs.Rounding.{IsNearest, deviation, nearest, nearest_size, with_sign}

-- how far two sizes are apart
abbrev apart : ℕ → ℕ → ℕ
apart m n = (m - n) + (n - m)

-- ---- sizes: a number with this rounding is nearest

-- a lower number is further away
lower : (n d q j : ℕ) → q * (2 * d) ≤ 2 * n + d → 2 * n + d < q * (2 * d) + 2 * d → j < q → apart n (q * d) ≤ apart n (j * d)
lower n d q j low high less =
    grind arith

-- a higher number is further away, and not as near
higher : (n d q j : ℕ) → q * (2 * d) ≤ 2 * n + d → 2 * n + d < q * (2 * d) + 2 * d → q < j → apart n (q * d) < apart n (j * d)
higher n d q j low high less =
    grind arith

nearest_of_sizes : (n d q j : ℕ) → q * (2 * d) ≤ 2 * n + d → 2 * n + d < q * (2 * d) + 2 * d → (apart n (q * d) ≤ apart n (j * d)) × (apart n (j * d) ≤ apart n (q * d) → j ≤ q)
nearest_of_sizes n d q j low high =
    ⊎_elim
    (λ (less : j < q). (lower n d q j low high less, λ _. omega arith))
    (λ (least : q ≤ j).
    ⊎_elim
    (λ (more : q < j). let step = higher n d q j low high more in (omega (arith, step), λ near. absurd (omega (arith, step, near))))
    (λ (most : j ≤ q). let same : j ≡ q = omega arith in rw same (omega arith, λ _. omega arith))
    (cases_lt q j))
    (cases_lt j q)

-- ---- with signs

-- two numbers are no nearer than their sizes
sizes_apart : (a b : ℤ) → apart (unsigned_abs a) (unsigned_abs b) ≤ unsigned_abs (a -ℤ b)
sizes_apart a b = omega (arith, ints)

positives_apart : (m n : ℕ) → unsigned_abs (pos m -ℤ pos n) ≡ apart m n
positives_apart m n = omega (arith, ints)

negatives_apart : (m n : ℕ) → unsigned_abs (neg_ℤ (pos m) -ℤ neg_ℤ (pos n)) ≡ apart m n
negatives_apart m n = omega (arith, ints)

negative_times_negative : (m n : ℕ) → neg_ℤ (pos m) *ℤ negsuc n ≡ pos (m * suc n)
negative_times_negative zero n = rw zero-mul refl
negative_times_negative (suc m) n = refl

negative_times_positive : (m n : ℕ) → neg_ℤ (pos m) *ℤ pos n ≡ neg_ℤ (pos (m * n))
negative_times_positive zero n = rw zero-mul refl
negative_times_positive (suc m) n = refl

pub not_negative : (n : ℕ) → is_negative (pos n) ≡ false
not_negative n = grind (arith, ints)

-- a quotient with the right sign is as far from the dividend as the sizes are
with_sign_apart : (dividend divisor : ℤ) (size : ℕ) → deviation dividend divisor (with_sign (xor (is_negative dividend) (is_negative divisor)) size) ≡ apart (unsigned_abs dividend) (size * unsigned_abs divisor)
unfolding xor
with_sign_apart (pos n) (pos d) size = rw (not_negative n, not_negative d) (positives_apart n _)
with_sign_apart (pos n) (negsuc d) size = grind (arith, not_negative, negative_times_negative, positives_apart)
with_sign_apart (negsuc n) (pos d) size = grind (arith, not_negative, negative_times_positive, negatives_apart)
with_sign_apart (negsuc n) (negsuc d) size = negatives_apart _ _

pub size_of_with_sign : (negative : Bool) (size : ℕ) → unsigned_abs (with_sign negative size) ≡ size
size_of_with_sign true zero = refl
size_of_with_sign true (suc size) = refl
size_of_with_sign false size = refl

pub nearest-is_nearest : (dividend divisor : ℤ) → 0 < unsigned_abs divisor → IsNearest dividend divisor (nearest dividend divisor)
unfolding nearest
nearest-is_nearest dividend divisor nonzero other =
    let n : ℕ = unsigned_abs dividend in
    let d : ℕ = unsigned_abs divisor in
    let q : ℕ = nearest_size n d in
    let low : q * (2 * d) ≤ 2 * n + d = div-mul-le_self (2 * n + d) (2 * d) in
    let high : 2 * n + d < q * (2 * d) + 2 * d = lt-div-mul-add {a = 2 * n + d} {b = 2 * d} (omega arith) in
    let sizes = nearest_of_sizes n d q _ low high in
    let number : ℤ = with_sign (xor (is_negative dividend) (is_negative divisor)) q in
    let here : deviation dividend divisor number ≡ apart n (q * d) = with_sign_apart _ divisor q in
    let there : apart n (unsigned_abs (other *ℤ divisor)) ≤ deviation dividend divisor other = sizes_apart dividend (other *ℤ divisor) in
    let product : unsigned_abs (other *ℤ divisor) ≡ unsigned_abs other * d = unsigned_abs-mul other divisor in
    let away : apart n (unsigned_abs other * d) ≤ deviation dividend divisor other = rw product at there in
    let size : unsigned_abs number ≡ q = size_of_with_sign (xor (is_negative dividend) (is_negative divisor)) q in
    (rw here (omega (arith, sizes.0, away)), λ near. rw size (sizes.1 (let near_too = rw here at near in omega (arith, near_too, away))))

-- ---- the nearest, by sign and size

pub size-nearest : (dividend divisor : ℤ) → unsigned_abs (nearest dividend divisor) ≡ nearest_size (unsigned_abs dividend) (unsigned_abs divisor)
unfolding nearest
size-nearest dividend divisor =
    grind (arith, size_of_with_sign)

pub nearest-with_sign : (negative : Bool) (dividend divisor : ℕ) → 0 < divisor → nearest (with_sign negative dividend) (pos divisor) ≡ with_sign negative (nearest_size dividend divisor)
unfolding nearest xor
nearest-with_sign true zero divisor nonzero =
    let none : nearest_size 0 divisor ≡ 0 = (div-eq_of_lt {n = 2 * 0 + divisor} {m = 2 * divisor} (omega arith)) in
    rw (not_negative 0, not_negative _, none) refl
nearest-with_sign true (suc dividend) divisor nonzero = rw (not_negative _) refl
nearest-with_sign false dividend divisor nonzero = rw (not_negative _, not_negative _) refl

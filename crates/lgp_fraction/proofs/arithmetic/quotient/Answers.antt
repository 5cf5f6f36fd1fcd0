use Rattle.std.proofs.Common.{◌≡◌, ◌*ℤ◌, ◌<◌, ◌≤◌, ◌^◌, ◌∙◌, FitsSigned, arith, ℤ, pos, of_z, to_z, w64, lit<, lit≤, unsigned_abs}
use Rattle.std.proofs.lemmas.Int.{fits_signed_from_abs, fits_signed_mul, to_z-of_z, unsigned_abs-mul}
use Rattle.std.specs.Int.{w128}
use Rattle.lgp_fraction.specs.Rounding.{nearest, nearest_size}
use Rattle.lgp_fraction.proofs.ArithmeticLemmas.{nearest_size-fraction}
use Rattle.lgp_fraction.proofs.arithmetic.quotient.Goals as goal

-- a number of 64 bits is one of 128
widened : (z : ℤ) → FitsSigned w64 z → FitsSigned w128 z
widened z fits = record { sfits = omega (arith, fits.sfits) }

-- what the widened numbers' quotient is
value : (dividend divisor wide wide_divisor result : ℤ) → FitsSigned w64 dividend → FitsSigned w64 divisor → unsigned_abs dividend < unsigned_abs divisor → unsigned_abs divisor ≤ 2 ^ 30 → wide ≡ to_z w64 (of_z w64 dividend) → wide_divisor ≡ to_z w64 (of_z w64 divisor) → result ≡ nearest (to_z w128 (of_z w128 (to_z w128 (of_z w128 wide) *ℤ pos (2 ^ 30)))) (to_z w128 (of_z w128 wide_divisor)) → result ≡ nearest (dividend *ℤ pos (2 ^ 30)) divisor
value dividend divisor wide wide_divisor result fits fits_divisor less small is_wide is_wide_divisor is_result =
    let wider : FitsSigned w128 dividend = widened dividend fits in
    let wider_divisor : FitsSigned w128 divisor = widened divisor fits_divisor in
    let product : FitsSigned w128 (dividend *ℤ pos (2 ^ 30)) = fits_signed_mul w128 dividend (pos (2 ^ 30)) (2 ^ 30) (2 ^ 30) (omega arith) (lit≤ tt) (lit< tt) in
    let is_dividend : wide ≡ dividend = is_wide ∙ to_z-of_z w64 dividend fits in
    let is_divisor : wide_divisor ≡ divisor = is_wide_divisor ∙ to_z-of_z w64 divisor fits_divisor in
    rw (is_dividend, is_divisor, to_z-of_z w128 dividend wider, to_z-of_z w128 (dividend *ℤ pos (2 ^ 30)) product, to_z-of_z w128 divisor wider_divisor) at is_result

-- its size
size : (dividend divisor wide wide_divisor result : ℤ) → FitsSigned w64 dividend → FitsSigned w64 divisor → unsigned_abs dividend < unsigned_abs divisor → unsigned_abs divisor ≤ 2 ^ 30 → wide ≡ to_z w64 (of_z w64 dividend) → wide_divisor ≡ to_z w64 (of_z w64 divisor) → unsigned_abs result ≡ nearest_size (unsigned_abs (to_z w128 (of_z w128 (to_z w128 (of_z w128 wide) *ℤ pos (2 ^ 30))))) (unsigned_abs (to_z w128 (of_z w128 wide_divisor))) → unsigned_abs result < 2 ^ 30
size dividend divisor wide wide_divisor result fits fits_divisor less small is_wide is_wide_divisor is_size =
    let wider : FitsSigned w128 dividend = widened dividend fits in
    let wider_divisor : FitsSigned w128 divisor = widened divisor fits_divisor in
    let product : FitsSigned w128 (dividend *ℤ pos (2 ^ 30)) = fits_signed_mul w128 dividend (pos (2 ^ 30)) (2 ^ 30) (2 ^ 30) (omega arith) (lit≤ tt) (lit< tt) in
    let is_dividend : wide ≡ dividend = is_wide ∙ to_z-of_z w64 dividend fits in
    let is_divisor : wide_divisor ≡ divisor = is_wide_divisor ∙ to_z-of_z w64 divisor fits_divisor in
    let exact = rw (is_dividend, is_divisor, to_z-of_z w128 dividend wider, to_z-of_z w128 (dividend *ℤ pos (2 ^ 30)) product, to_z-of_z w128 divisor wider_divisor, unsigned_abs-mul dividend (pos (2 ^ 30))) at is_size in
    rw exact (nearest_size-fraction _ _ less small)

-- a small number is narrowed as it is
narrowed : (result : ℤ) → FitsSigned w128 result → unsigned_abs result < 2 ^ 30 → to_z w64 (of_z w64 (to_z w128 (of_z w128 result))) ≡ result
narrowed result fits small =
    grind (arith, fits_signed_from_abs)

size_of : (c : goal.After-nearest) → unsigned_abs c.nearest.result < 2 ^ 30
size_of c = size c.args.dividend c.args.divisor c.from.result c.from-2.result c.nearest.result c.ranges.dividend c.ranges.divisor c.requires.fraction c.requires.divisor c.from.ensures c.from-2.ensures c.nearest.ensures.size

narrowed_of : (c : goal.After-nearest) → to_z w64 (of_z w64 (to_z w128 (of_z w128 c.nearest.result))) ≡ c.nearest.result
narrowed_of c = grind (arith, narrowed, size_of)

pub returns-clause-value : goal.returns-clause-value
returns-clause-value c = narrowed_of c ∙ value c.args.dividend c.args.divisor c.from.result c.from-2.result c.nearest.result c.ranges.dividend c.ranges.divisor c.requires.fraction c.requires.divisor c.from.ensures c.from-2.ensures c.nearest.ensures.value

pub returns-clause-size : goal.returns-clause-size
returns-clause-size c = rw (narrowed_of c) (size_of c)

use Rattle.std.proofs.Common.{arith, ◌≡◌, ◌∙◌, ◌^◌, ap, false, FitsSigned, ℕ, ◌*ℤ◌, pos, w64, lit<, lit≤}
use Rattle.std.proofs.lemmas.Int.{fits_signed_from_abs, fits_signed_mul, to_z-of_z}
use Rattle.lgp_fraction.specs.Arithmetic.{half, low_bits, multiplied_low}
use Rattle.lgp_fraction.specs.declared.arithmetic.Arith.{Arith}
use Rattle.lgp_fraction.proofs.arithmetic.mul_low.Goals as goal

abbrev leaves : ℕ → Arith
leaves accumulator = record { accumulator = accumulator; overflow = false }

pub returns-clause-value : goal.returns-clause-value
unfolding multiplied_low
returns-clause-value c =
    let left : FitsSigned w64 c.half.result = fits_signed_from_abs _ _ (omega (arith, c.half.ensures.size)) in
    let right : FitsSigned w64 c.half-2.result = fits_signed_from_abs _ _ (omega (arith, c.half-2.ensures.size)) in
    let product : FitsSigned w64 c.product.result = fits_signed_from_abs _ _ (omega (arith, c.product.ensures.size)) in
    let four : FitsSigned w64 (pos 4 *ℤ c.product.result) = fits_signed_mul w64 (pos 4) c.product.result 4 (2 ^ 60) (lit≤ tt) c.product.ensures.size (lit< tt) in
    let is_half : c.half-2.result ≡ half c.args.word = c.half-2.ensures.value ∙ ap half c.get.ensures.value in
    let low : c.low_bits.result ≡ low_bits (pos 4 *ℤ (half c.args.accumulator *ℤ half c.args.word)) =
    rw (to_z-of_z w64 c.product.result product, to_z-of_z w64 (pos 4 *ℤ c.product.result) four, c.product.ensures.value, to_z-of_z w64 c.half.result left, to_z-of_z w64 c.half-2.result right, c.half.ensures.value, is_half) at c.low_bits.ensures in
    ap leaves low

use Rattle.std.proofs.Common.{◌≡◌, ◌^◌, ◌∙◌, ap, ap₂, Bool, FitsSigned, ℕ, ◌*ℤ◌, pos, rules, w64}
use Rattle.std.specs.Int.{int_div_euclid}
use Rattle.std.proofs.lemmas.Int.{fits_signed_from_abs, to_z-of_z}
use Rattle.lgp_fraction.specs.Arithmetic.{half, is_outside, low_bits, multiplied_high}
use Rattle.lgp_fraction.specs.declared.arithmetic.Arith.{Arith}
use Rattle.lgp_fraction.proofs.ArithmeticLemmas.{outside-product, product-outside}
use Rattle.lgp_fraction.proofs.arithmetic.mul_high.Goals as goal

abbrev leaves : ℕ → Bool → Arith
leaves accumulator overflow = record { accumulator = accumulator; overflow = overflow }

is_half : (c : goal.After-is_outside) → c.half-2.result ≡ half c.args.word
is_half c = c.half-2.ensures.value ∙ ap half c.get.ensures.value

is_high : (c : goal.After-is_outside) → c.high_part-high.result ≡ pos 2 *ℤ int_div_euclid (half c.args.accumulator *ℤ half c.args.word) (pos (2 ^ 30))
is_high c =
    search (rules, fits_signed_from_abs, is_half)

overflow : (c : goal.After-is_outside) → c.is_outside.result ≡ is_outside (pos 2 *ℤ int_div_euclid (half c.args.accumulator *ℤ half c.args.word) (pos (2 ^ 30)))
overflow c =
    let high : FitsSigned w64 c.high_part-high.result = search rules in
    c.is_outside.ensures ∙ ap is_outside (to_z-of_z w64 c.high_part-high.result high ∙ is_high c)

low : (c : goal.After-is_outside) → c.low_bits.result ≡ low_bits (pos 2 *ℤ int_div_euclid (half c.args.accumulator *ℤ half c.args.word) (pos (2 ^ 30)))
low c =
    let high : FitsSigned w64 c.high_part-high.result = search rules in
    c.low_bits.ensures ∙ ap low_bits (to_z-of_z w64 c.high_part-high.result high ∙ is_high c)

pub returns-clause-value : goal.returns-clause-value
unfolding multiplied_high
returns-clause-value c = ap₂ leaves (low c) (overflow c)

pub returns-clause-exception : goal.returns-clause-exception
returns-clause-exception c =
    search (rules, is_half, overflow, outside-product, product-outside)

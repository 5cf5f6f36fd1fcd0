use Rattle.std.proofs.Common.{◌≡◌, ◌<◌, ◌*◌, ◌^◌, ◌∙◌, FitsSigned, ap, arith, rules, sym, unsigned_abs, w64}
use Rattle.std.specs.Int.{w128}
use Rattle.std.proofs.lemmas.Int.{fits_signed_from_abs, to_z-of_z}
use Rattle.lgp_fraction.specs.Rounding.{nearest_size, with_sign}
use Rattle.lgp_fraction.proofs.RoundingLemmas.{nearest-with_sign}
use Rattle.lgp_fraction.proofs.DecimalLemmas.{nearest_size-units, power_of_ten-positive}
use Rattle.lgp_fraction.proofs.fraction.steps_of.Goals as goal

is_size : (c : goal.After-with_sign) → c.nearest_size-size.result ≡ nearest_size (c.args.units * 2 ^ 30) (10 ^ c.args.places)
is_size c = grind arith

small : (c : goal.After-with_sign) → unsigned_abs c.with_sign.result < 2 ^ 32
small c =
    grind (arith, nearest_size-units, power_of_ten-positive, is_size)

pub overflow_cast-result : goal.overflow_cast-result
overflow_cast-result c =
    let fits : FitsSigned w128 c.with_sign.result = search rules in
    let below = small c in
    let fits_too : FitsSigned w64 c.with_sign.result = fits_signed_from_abs _ _ (omega (arith, below)) in
    rw (to_z-of_z w128 c.with_sign.result fits) fits_too

pub returns : goal.returns
returns c =
    let fits : FitsSigned w128 c.with_sign.result = search rules in
    let below = small c in
    let fits_too : FitsSigned w64 c.with_sign.result = fits_signed_from_abs _ _ (omega (arith, below)) in
    let is_number : c.with_sign.result ≡ with_sign c.args.negative (nearest_size (c.args.units * 2 ^ 30) (10 ^ c.args.places)) = c.with_sign.ensures.value ∙ ap (with_sign c.args.negative) (is_size c) in
    rw (to_z-of_z w128 c.with_sign.result fits, to_z-of_z w64 c.with_sign.result fits_too)
    (is_number ∙ sym (nearest-with_sign _ _ _ (power_of_ten-positive _)))

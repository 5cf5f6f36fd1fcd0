use Rattle.std.proofs.Common.{◌*ℤ◌, FitsSigned, refl, w64, lit<}
use Rattle.std.proofs.lemmas.Int.{fits_signed_mul, to_z-of_z}
use Rattle.lgp_fraction.proofs.ArithmeticLemmas.{size-product}
use Rattle.lgp_fraction.proofs.arithmetic.product.Goals as goal

pub returns-clause-value : goal.returns-clause-value
returns-clause-value c =
    let left : FitsSigned w64 c.args.left = c.ranges.left in
    let right : FitsSigned w64 c.args.right = c.ranges.right in
    let product : FitsSigned w64 (c.args.left *ℤ c.args.right) = fits_signed_mul _ c.args.left c.args.right _ _ c.requires.left c.requires.right (lit< tt) in
    rw (to_z-of_z w64 c.args.left left, to_z-of_z w64 c.args.right right, to_z-of_z w64 (c.args.left *ℤ c.args.right) product) refl

pub returns-clause-size : goal.returns-clause-size
returns-clause-size c = rw (returns-clause-value c) (size-product c.args.left c.args.right _ _ c.requires.left c.requires.right)

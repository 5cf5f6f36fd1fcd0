use Rattle.std.proofs.Common.{◌≡◌, ◌∙◌, ◌^◌, ◌*◌, ap, pos, sym, unsigned_abs, w32}
use Rattle.std.proofs.lemmas.Int.{to_z-of_z, unsigned_abs-mul}
use Rattle.lgp_fraction.specs.Rounding.{nearest_size}
use Rattle.lgp_fraction.proofs.RoundingLemmas.{size-nearest}
use Rattle.lgp_fraction.proofs.fraction.ten_places.Goals as goal

pub returns-clause-value : goal.returns-clause-value
returns-clause-value c =
    let is_size : c.nearest_size.result ≡ nearest_size (unsigned_abs c.args.steps * 10 ^ 10) (2 ^ 30) = rw (c.from.ensures, c.unsigned_abs.ensures.value, to_z-of_z w32 c.args.steps c.ranges.steps) at c.nearest_size.ensures.value in
    is_size ∙ (ap (λ size. nearest_size size (2 ^ 30)) (sym (unsigned_abs-mul c.args.steps (pos (10 ^ 10)))) ∙ sym (size-nearest _ _))

use Rattle.std.proofs.Common.{◌∙◌, Err, ap, arith}
use Rattle.lgp_script.proofs.laboratory.Laboratory.back.Goals as goal

pub unreachable-requires : goal.unreachable-requires
unreachable-requires g c =
    let far = (c.back.ensures.too_far _).0 (c.in-Err-TooFar.is ∙ ap Err c.in-Err-TooFar.field-0-is) in
    omega arith

use Rattle.std.proofs.Common.{arith}
use Rattle.lgp_word.proofs.DecimalLemmas.{digit_of_digits, room}
use Rattle.lgp_word.proofs.decimal.decimal_of.Goals as goal

pub overflow_mul-number : goal.overflow_mul-number
overflow_mul-number c =
    let space = room _ c.loop-digit.digit-index c.loop-digit.invariant.small (omega arith) in
    omega (arith, space)

pub overflow_add-number : goal.overflow_add-number
overflow_add-number c =
    let space = room _ c.loop-digit.digit-index c.loop-digit.invariant.small (omega arith) in
    let digit = digit_of_digits c.args.digits.now c.loop-digit.digit-index c.requires.digits (omega arith) in
    omega (arith, space, digit, c.from.ensures)

use Rattle.std.proofs.Common.{◌≤◌, ◌^◌, arith}
use Rattle.std.proofs.Math.Nat.{pow-le-pow_right}
use Rattle.lgp_word.proofs.digits.number_of.Goals as goal

pub returns-clause-range : goal.returns-clause-range
returns-clause-range c =
    let short : c.loop-byte.byte-index ≤ 8 = omega arith in
    let below : 16 ^ c.loop-byte.byte-index ≤ 16 ^ 8 = pow-le-pow_right (omega arith) short in
    omega (arith, below)

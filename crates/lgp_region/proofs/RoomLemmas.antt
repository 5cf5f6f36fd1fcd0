-- The block of a request: it has room for all that was asked for.
use Rattle.std.proofs.Common.{◌≡◌, ℕ, ◌-◌, ◌*◌, ◌/◌, ◌^◌, ◌<◌, ◌≤◌, arith, sym, subst}
use Rattle.std.proofs.lemmas.Nat.{leading_length}
use Rattle.std.specs.Int.{w64, leading_zeros}

-- a request has no more bytes than its block
pub fits_block : (bytes : ℕ) → bytes < 2 ^ 64 → bytes ≤ 16 * 2 ^ (64 - leading_zeros w64 ((bytes - 1) / 16))
fits_block bytes small =
    let length = leading_length 64 ((bytes - 1) / 16) (omega arith) in
    let same : 64 - leading_zeros w64 ((bytes - 1) / 16) ≡ length.0 = omega (arith, length.1) in
    let below : bytes ≤ 16 * 2 ^ length.0 = omega (arith, length.2) in
    subst (λ (m : ℕ). bytes ≤ 16 * 2 ^ m) (sym same) below

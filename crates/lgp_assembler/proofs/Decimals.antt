-- How large a number by the place of its point is.
use Rattle.std.proofs.Common.{◌<◌, ◌≤◌, ◌*◌, ◌^◌, ℕ, arith, lit<}
use Rattle.std.proofs.Math.Nat.{pow-le-pow_right}

pub power_bound : (e : ℕ) → e ≤ 30 → 2 ^ e ≤ 1073741824
power_bound e few = pow-le-pow_right {n = 2} (lit< tt) {i = e} {j = 30} few

pub product_bound : (a b : ℕ) → a < 10 ^ 10 → b ≤ 1073741824 → a * b < 2 ^ 64
product_bound a b small few =
    grind arith

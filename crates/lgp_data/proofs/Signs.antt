-- The signs of codes are bytes.
use Rattle.std.proofs.Common.{◌≡◌, ◌<◌, ◌≤◌, ℕ, Bool, true, nat_lt, Option, Some, None, refl, ap, ◌∙◌, arith}
use Rattle.std.proofs.lemmas.Bool.Decides.{nat_tests}
use Rattle.lgp_flexo.specs.Code.{sign_at}
use Rattle.lgp_flexo.proofs.Writing.{all_below, all_below-at}

abbrev pub is_short : Option ℕ → Bool
is_short None = true
is_short (Some sign) = nat_lt sign 256

-- seen code by code
all_short : all_below (λ code. is_short (sign_at code)) 64 ≡ true
unfolding sign_at
all_short = refl

short_sign : (sign : ℕ) → nat_lt sign 256 ≡ true → sign < 256
short_sign sign is = grind (arith, nat_tests)

pub sign_short : (code sign : ℕ) → code ≤ 63 → Some sign ≡ sign_at code → sign < 256
sign_short code sign within is = short_sign _ (ap is_short is ∙ all_below-at (λ code. is_short (sign_at code)) 64 code all_short (omega arith))

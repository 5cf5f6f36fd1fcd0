-- The digits after a point.
use Rattle.std.proofs.Common.{◌≡◌, ℕ, zero, suc, ◌+◌, ◌-◌, ◌*◌, ◌/◌, ◌%◌, ◌^◌, ◌<◌, List, [], ◌∷◌, ◌++◌, arith, ap, sym, ◌∙◌, append-nil, append_assoc}
use Rattle.lgp_monitor.specs.Scaled.{decimals}

first-digit : (more rest : ℕ) → 0 < more → 0 < rest → decimals more rest ≡ (48 + rest / 10 ^ 9) ∷ decimals (more - 1) (rest % 10 ^ 9 * 10)
unfolding decimals
first-digit zero rest some left = absurd (omega (arith, some))
first-digit (suc more) zero some left = absurd (omega (arith, left))
first-digit (suc more) (suc rest) some left =
    grind arith

-- a text with one digit more after it
pub next-digit : (text whole : List ℕ) (more rest : ℕ) → 0 < more → 0 < rest → text ++ decimals more rest ≡ whole → (text ++ (48 + rest / 10 ^ 9) ∷ []) ++ decimals (more - 1) (rest % 10 ^ 9 * 10) ≡ whole
next-digit text whole more rest some left is =
    append_assoc text ((48 + rest / 10 ^ 9) ∷ []) (decimals (more - 1) (rest % 10 ^ 9 * 10)) ∙ (ap (λ (digits : List ℕ). text ++ digits) (sym (first-digit _ _ some left)) ∙ is)

pub no-room : (text whole : List ℕ) (more rest : ℕ) → more ≡ 0 → text ++ decimals more rest ≡ whole → text ≡ whole
unfolding decimals
no-room text whole zero rest none is = sym (append-nil text) ∙ is
no-room text whole (suc more) rest none is = absurd (omega (arith, none))

pub none-left : (text whole : List ℕ) (more rest : ℕ) → rest ≡ 0 → text ++ decimals more rest ≡ whole → text ≡ whole
unfolding decimals
none-left text whole zero rest none is = sym (append-nil text) ∙ is
none-left text whole (suc more) zero none is = sym (append-nil text) ∙ is
none-left text whole (suc more) (suc rest) none is = absurd (omega (arith, none))

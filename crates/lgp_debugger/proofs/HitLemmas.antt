-- A last hit is at least one order back, and no more than are kept.
use Rattle.std.proofs.Common.{◌≡◌, ◌≤◌, ◌+◌, ℕ, Bool, true, false, List, [], ◌∷◌, Option, None, Some, ap, arith, option_map}
use Rattle.std.specs.Prelude.{if◌then◌else◌}
use Rattle.std.specs.Option.{option_or}
use Rattle.lgp_history.specs.Hits.{last_hit}
use Rattle.lgp_history.specs.Steps.{orders_in}
use Rattle.lgp_history.specs.declared.rule.Rule.{Rule}
use Rattle.lgp_history.specs.Step.{KeptStep}

-- how many orders back a hit is; 0 where there is none
abbrev orders_back : Option (ℕ × ℕ) → ℕ
orders_back None = 0
orders_back (Some hit) = hit.0

-- a later hit remains, else the order itself may be one
step_within : (later : Option (ℕ × ℕ)) (order : Bool) (first : Option ℕ) (m n i : ℕ)
    → (later ≡ Some (n, i) → (1 ≤ n) × (n ≤ m))
    → option_or later (if order then option_map (λ number. (m + 1, number)) first else None) ≡ Some (n, i)
    → (1 ≤ n) × (n ≤ (if order then 1 else 0) + m)
step_within (Some hit) true first m n i within e = let w = within e in (w.0, omega (arith, w.1))
step_within (Some hit) false first m n i within e = let w = within e in (w.0, omega (arith, w.1))
step_within None true (Some number) m n i within e =
    let back : m + 1 ≡ n = ap orders_back e in (omega (arith, back), omega (arith, back))
step_within None true None m n i within e = cc
step_within None false first m n i within e = cc

pub last_hit-within : (rules : List Rule) (kept : List KeptStep) (n i : ℕ)
    → last_hit rules kept ≡ Some (n, i) → (1 ≤ n) × (n ≤ orders_in kept)
last_hit-within rules [] n i e = cc
last_hit-within rules (k ∷ later) n i e =
    grind (arith, step_within, last_hit-within rules later n i)

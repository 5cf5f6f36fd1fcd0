-- Part of the public promise. Rules, and the orders that they hit.
use Rattle.std.specs.Prelude.{ℕ, ◌+◌, ◌==◌, ◌&&◌, Bool, true, false, not, if◌then◌else◌, List, []}
use Rattle.std.specs.Prelude.{◌∷◌, Option, None, option_map, position}
use Rattle.std.specs.Option.{option_or}
use Rattle.lgp_table.specs.State.{State, word_at}
use Rattle.lgp_table.specs.Activity.{next}
use Rattle.lgp_table.specs.declared.panel.Status.{Status}
use Rattle.lgp_table.specs.declared.panel.Status.TheVariants.{Going}
use Rattle.lgp_history.specs.Steps.{is_order, orders_in}
use Rattle.lgp_history.specs.Step.{KeptStep}
use Rattle.lgp_history.specs.declared.rule.Rule.{Rule}
use Rattle.lgp_history.specs.declared.rule.Rule.TheVariants.{At, Changed}

abbrev pub is_going : Status → Bool
is_going Going = true
is_going _ = false

-- whether the machine is going, with this address at its counter
abbrev pub goes_at : State → ℕ → Bool
goes_at s address = is_going s.core.panel.status && (s.core.panel.counter == address)

-- whether the activity that begins here leaves another word at this address
abbrev pub changes : State → ℕ → Bool
changes s address = not (word_at s.core address == word_at (next s).core address)

-- whether a rule hits the order that begins in a state
abbrev pub is_hit : State → Rule → Bool
is_hit s (At address) = goes_at s address
is_hit s (Changed address) = changes s address

-- the number of the first rule that hits the order that begins in a state
abbrev pub first_hit : List Rule → State → Option ℕ
first_hit rules s = position (is_hit s) rules

-- the latest kept order that a rule hits: how many orders back it is, and the first rule that hits
-- it
abbrev pub last_hit : List Rule → List KeptStep → Option (ℕ × ℕ)
last_hit rules [] = None
last_hit rules (k ∷ later) =
    option_or (last_hit rules later)
    (if is_order k.step
    then option_map (λ number. (orders_in later + 1, number)) (first_hit rules k.before) else None)

-- Part of the public promise. Steps, each from one order boundary to another, and the steps that
-- are kept, the oldest first, each with the state before it.
use Rattle.std.specs.Prelude.{◌≡◌, ℕ, ◌+◌, ◌≤◌, ◌==◌, ◌&&◌, Bool, true, false, if◌then◌else◌, List}
use Rattle.std.specs.Prelude.{[], ◌∷◌, ◌++◌, length, IsTrue}
use Rattle.lgp_flexo.specs.TapeText.{tape_limit}
use Rattle.lgp_table.specs.State.{State}
use Rattle.lgp_table.specs.Activity.{cost, next}
use Rattle.lgp_table.specs.Console.{is_at_rest, is_live}
use Rattle.lgp_table.specs.Interleaving.{after_action, after_mount, after_put, after_rest}
use Rattle.lgp_machine.specs.Answers.{clock_end}
use Rattle.circular_buffer.specs.Buffer.{keep_last}
use Rattle.lgp_history.specs.Step.{KeptStep, Step, Perform, Press, Idle, Mount, Put, step_from}

-- the state after a step
abbrev pub stepped : Step → State → State
stepped Perform s = next s
stepped (Press action) s = after_action s action
stepped (Idle times) s = after_rest s times
stepped (Mount codes) s = after_mount s codes
stepped (Put address word) s = after_put s address word

-- what can be done in a state: an activity at work and within the clock, a live press, and at rest
-- word times within the clock, a tape that is not too long, and any word
abbrev pub CanStep : Step → State → Type 0
CanStep Perform s = (is_at_rest s.core.panel.status ≡ false) × (s.clock + cost s ≤ clock_end)
CanStep (Press action) s = IsTrue (is_live s.core.panel action)
CanStep (Idle times) s = IsTrue (is_at_rest s.core.panel.status) × (s.clock + times ≤ clock_end)
CanStep (Mount codes) s = IsTrue (is_at_rest s.core.panel.status) × (length codes ≤ tape_limit)
CanStep (Put address word) s = IsTrue (is_at_rest s.core.panel.status)

-- an activity performed is an order, the other steps are none
abbrev pub is_order : Step → Bool
is_order Perform = true
is_order _ = false

-- how many of the kept steps are orders
abbrev pub orders_in : List KeptStep → ℕ
orders_in [] = 0
orders_in (k ∷ later) = (if is_order k.step then 1 else 0) + orders_in later

-- the state in which the kept steps begin, or the present one where none is kept
abbrev pub first_state : List KeptStep → State → State
first_state [] now = now
first_state (k ∷ later) now = k.before

-- each kept step could be done where it was, and leads to the state before the next one; the last
-- leads to the present state
abbrev pub AreStepsTo : State → List KeptStep → Type 0
AreStepsTo now [] = Unit {0}
AreStepsTo now (k ∷ later) =
    CanStep k.step k.before × (stepped k.step k.before ≡ first_state later now)
    × AreStepsTo now later

-- the kept steps lead to the present state
pub record Leads (kept : List KeptStep) (now : State) : Type 0 where
  pub steps : AreStepsTo now kept

-- one step more: where as many are kept as there is room for, the oldest goes
abbrev pub with_step : ℕ → List KeptStep → State → Step → List KeptStep
with_step capacity kept before step = keep_last capacity (kept ++ step_from before step ∷ [])

-- whether the first of these steps is the n-th last order
abbrev pub is_order_back : ℕ → KeptStep → List KeptStep → Bool
is_order_back n k later = is_order k.step && (orders_in later + 1 == n)

-- going back n orders: the state in which the n-th last order began, and the kept steps before it
abbrev pub state_back : ℕ → List KeptStep → State → State
state_back n [] now = now
state_back n (k ∷ later) now =
    if is_order_back n k later then k.before else state_back n later now

abbrev pub steps_back : ℕ → List KeptStep → List KeptStep
steps_back n [] = []
steps_back n (k ∷ later) = if is_order_back n k later then [] else k ∷ steps_back n later

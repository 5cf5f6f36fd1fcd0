-- Serves proofs only: what is kept of a past, and the copies of the machine in it.
use Rattle.std.specs.Prelude.{◌≡◌, ℕ, zero, suc, ◌+◌, ◌≤◌, List, [], ◌∷◌, length, take, All}
use Rattle.lgp_table.specs.State.{State}
use Rattle.lgp_table.specs.After.{after}
use Rattle.lgp_table.specs.Interleaving.{Configuration, at_boundary}
use Rattle.lgp_history.specs.Steps.{CanStep}
use Rattle.lgp_past.specs.Past.{CanPerform, Event, Story, after_event, orders_before}

-- the state after all these events
unfoldable pub after_events : State → List Event → State
after_events s [] = s
after_events s (e ∷ later) = after_events (after_event s e) later

-- each order and each step can be done where it is
unfoldable pub ArePossible : State → List Event → ℕ → Type 0
ArePossible s [] orders = CanPerform s orders
ArePossible s (e ∷ later) orders =
    CanPerform s e.orders × CanStep e.step (after s e.orders)
    × ArePossible (after_event s e) later orders

-- how many orders there are between the events before a place and the next one, or the end
unfoldable pub orders_at : List Event → ℕ → ℕ → ℕ
orders_at [] orders place = orders
orders_at (e ∷ later) orders zero = e.orders
orders_at (e ∷ later) orders (suc place) = orders_at later orders place

-- a copy of the machine: how many events are before it, how many orders since the last of them, and
-- how many in all
pub record Copied : Type 0 where
  pub place : ℕ
  pub within : ℕ
  pub orders : ℕ
  pub machine : Configuration

-- a copy of the machine as it was there
pub record IsCopied (start : State) (events : List Event) (later : ℕ) (copy : Copied)
    : Type 0 where
  pub there : copy.place ≤ length events
  pub few : copy.within ≤ orders_at events later copy.place
  pub counted : copy.orders ≡ orders_before (take copy.place events) + copy.within
  pub same : copy.machine
      ≡ at_boundary (after (after_events start (take copy.place events)) copy.within)

-- the same of a story; how many orders there are before a place among its events, and how many
-- between that place and the next event; and the state some orders after that place
abbrev pub IsCopiedOf : Story → Copied → Type 0
IsCopiedOf story copy = IsCopied story.first story.events story.orders copy

abbrev pub orders_to : Story → ℕ → ℕ
orders_to story place = orders_before (take place story.events)

abbrev pub orders_from : Story → ℕ → ℕ
orders_from story place = orders_at story.events story.orders place

abbrev pub state_after : Story → ℕ → ℕ → State
state_after story place done = after (after_events story.first (take place story.events)) done

-- what is kept of a past
pub record IsKept (opening : Copied) (events : List Event) (before later : ℕ)
    (copies : List Copied) : Type 0 where
  pub begins : opening.place ≡ 0
  pub at_once : opening.within ≡ 0
  pub first : IsCopied opening.machine.state events later opening
  pub possible : ArePossible opening.machine.state events later
  pub counted : before ≡ orders_before events
  pub copied : All (IsCopied opening.machine.state events later) copies

-- Part of the public promise: the past of a machine, and the state at the beginning of each of its
-- orders.
use Rattle.std.specs.Prelude.{ℕ, Bool, ◌+◌, ◌-◌, ◌<◌, if◌then◌else◌, nat_lt, List, [], ◌∷◌, ◌++◌}
use Rattle.lgp_table.specs.State.{State}
use Rattle.lgp_table.specs.After.{after}
use Rattle.lgp_history.specs.Step.{Step, Perform}
use Rattle.lgp_history.specs.Steps.{CanStep, stepped}

-- a step of the operator, and how many orders came before it, since the step before
pub record Event : Type 0 where
  pub orders : ℕ
  pub step : Step

-- what was done since a machine was in a first state: the operator's steps, each with the orders
-- before it, and how many orders came after the last step
pub record Story : Type 0 where
  pub first : State
  pub events : List Event
  pub orders : ℕ

-- the state after the orders before a step, and the step
abbrev pub after_event : State → Event → State
after_event s e = stepped e.step (after s e.orders)

-- the state in which the order of a number begins, where the first one has the number 0: all steps
-- before that order are done
unfoldable pub state_from : State → List Event → ℕ → State
state_from s [] order = after s order
state_from s (e ∷ later) order =
    if nat_lt order e.orders then after s order
    else state_from (after_event s e) later (order - e.orders)

abbrev pub state_at : Story → ℕ → State
state_at story order = state_from story.first story.events order

-- how many orders there were before the last step, and in all
unfoldable pub orders_before : List Event → ℕ
orders_before [] = 0
orders_before (e ∷ later) = e.orders + orders_before later

abbrev pub all_orders : Story → ℕ
all_orders story = orders_before story.events + story.orders

-- the present state: the one in which the next order would begin
abbrev pub present : Story → State
present story = state_at story (all_orders story)

-- whether a given number of orders can be performed one after another
abbrev pub CanPerform : State → ℕ → Type 0
CanPerform s count = (k : ℕ) → k < count → CanStep Perform (after s k)

-- one step more
abbrev pub with_event : Story → Step → Story
with_event story step = record story {
  events = story.events ++ record { orders = story.orders; step = step } ∷ [];
  orders = 0;
}

-- some orders more
abbrev pub with_orders : Story → ℕ → Story
with_orders story count = record story { orders = story.orders + count }

-- the steps before the order of a number
unfoldable pub events_until : List Event → ℕ → List Event
events_until [] order = []
events_until (e ∷ later) order =
    if nat_lt order e.orders then [] else e ∷ events_until later (order - e.orders)

-- the story as it was when the order of a number began
abbrev pub story_until : Story → ℕ → Story
story_until story order = record story {
  events = events_until story.events order;
  orders = order - orders_before (events_until story.events order);
}

-- what is kept of a story, and whether there is room to note one step more
pub record Past : Type 0 where
  pub story : Story
  pub has_room : Bool

-- Serves proofs only: the steps of a trail, of which every 64th begins with a copy of the machine,
-- and what they play.
use Rattle.std.specs.Prelude.{◌≡◌, ℕ, ◌+◌, ◌-◌, ◌≤◌, ◌<◌, ◌%◌, ◌==◌, if◌then◌else◌, List, [], ◌∷◌}
use Rattle.std.specs.Prelude.{length, Option, Some, None}
use Rattle.lgp_table.specs.State.{State, opening}
use Rattle.lgp_table.specs.Interleaving.{Configuration, at_boundary}
use Rattle.lgp_history.specs.Steps.{CanStep, stepped}
use Rattle.lgp_history.specs.Step.{KeptStep, Step, step_from}

-- a step, and the machine before it where a copy was made
pub record Noted : Type 0 where
  pub step : Step
  pub copy : Option Configuration

-- the copy that is made at a place of the trail
abbrev pub copy_at : ℕ → State → Option Configuration
copy_at place s = if place % 64 == 0 then Some (at_boundary s) else None

abbrev pub copied_state : Option Configuration → State
copied_state None = opening []
copied_state (Some copy) = copy.state

-- the state in which a trail begins
abbrev pub start_of : List Noted → State
start_of [] = opening []
start_of (e ∷ later) = copied_state e.copy

-- the steps of a trail, each with the state before it
abbrev pub played : State → List Noted → List KeptStep
played s [] = []
played s (e ∷ later) = step_from s e.step ∷ played (stepped e.step s) later

-- the state that a trail leads to
abbrev pub played_to : State → List Noted → State
played_to s [] = s
played_to s (e ∷ later) = played_to (stepped e.step s) later

-- each step can be done where it is, and the copies are those of every 64th place
abbrev pub AreNotedFrom : ℕ → State → List Noted → Type 0
AreNotedFrom place s [] = Unit {0}
AreNotedFrom place s (e ∷ later) =
    (e.copy ≡ copy_at place s) × CanStep e.step s
    × AreNotedFrom (place + 1) (stepped e.step s) later

-- the same from a trail's first copy on
pub record IsNoted (trail : List Noted) : Type 0 where
  pub noted : AreNotedFrom 0 (start_of trail) trail

-- a trail of which fewer than 64 steps in front do not count; where none counts there are none
pub record IsTrail (trail : List Noted) (passed : ℕ) (capacity : ℕ) : Type 0 where
  pub noted : IsNoted trail
  pub few : passed < 64
  pub some : passed ≤ length trail - 1
  pub within : length trail ≤ passed + capacity

-- what a history by checkpoints shows: the kept steps, how many steps are on the trail before them,
-- and the capacity
pub record Trail : Type 0 where
  pub steps : List KeptStep
  pub passed : ℕ
  pub capacity : ℕ

-- what is noted of a step after a trail
abbrev pub noted_after : Trail → State → Step → Noted
noted_after trail before step = record {
  step = step;
  copy = copy_at (trail.passed + length trail.steps) before;
}

-- the latest hit, by the orders from it on and its rule
abbrev pub hit_of : ℕ → Option ℕ → Option (ℕ × ℕ)
hit_of orders None = None
hit_of orders (Some rule) = Some (orders, rule)

-- the latest hit after one order more, which a rule hits or none
abbrev pub hit_more : Option (ℕ × ℕ) → Option ℕ → Option (ℕ × ℕ)
hit_more latest (Some rule) = Some (1, rule)
hit_more None None = None
hit_more (Some hit) None = Some (hit.0 + 1, hit.1)

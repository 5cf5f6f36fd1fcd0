-- Part of the public promise. Steps as plain data, and a kept step.
use Rattle.std.specs.Prelude.{ℕ, List}
use Rattle.lgp_table.specs.State.{State}
use Rattle.lgp_table.specs.declared.action.Action.{Action}
use Rattle.lgp_history.specs.declared.step.Step as code
use Rattle.lgp_history.specs.declared.step.Step.TheVariants as variants

-- the activity that begins there, a live press, word times at rest, a tape mounted, a word put on
-- the drum
pub data Step : Type 0 where
  Perform : Step
  Press : Action → Step
  Idle : ℕ → Step
  Mount : List ℕ → Step
  Put : ℕ → ℕ → Step

-- the code's step, without the allocator of its tape
abbrev pub plain : {A : Type 0} → code.Step A → Step
plain variants.Perform = Perform
plain (variants.Press action) = Press action
plain (variants.Idle times) = Idle times
plain (variants.Mount codes) = Mount codes
plain (variants.Put address word) = Put address word

-- a step, with the state before it
pub record KeptStep : Type 0 where
  pub before : State
  pub step : Step

abbrev pub step_from : State → Step → KeptStep
step_from before step = record { before = before; step = step }

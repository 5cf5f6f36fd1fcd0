-- Part of the public promise: the debugger as clauses see it, and what each step leaves of it.
use Rattle.std.specs.Prelude.{ℕ, zero, suc, List, Option}
use Rattle.std.specs.Option.{option_and_then}
use Rattle.lgp_table.specs.State.{State}
use Rattle.lgp_table.specs.Activity.{begun_order, place_in}
use Rattle.lgp_history.specs.Step.{KeptStep, Step, Perform}
use Rattle.lgp_history.specs.Steps.{state_back, stepped, steps_back, with_step}
use Rattle.lgp_history.specs.Origins.{latest_change}
use Rattle.lgp_history.specs.declared.origin.Origin.{Origin}
use Rattle.lgp_history.specs.declared.rule.Rule.{Rule}

-- how many rules there may be
abbrev pub rule_limit : ℕ
rule_limit = 64

-- the present state, always at a boundary; the kept steps, oldest first; how many steps are kept at
-- most; the rules in the order of their numbers
pub record Debugging : Type 0 where
  pub state : State
  pub steps : List KeptStep
  pub capacity : ℕ
  pub rules : List Rule

-- a step is done, and kept
abbrev pub after_step : Debugging → Step → Debugging
after_step d step = record d {
  state = stepped step d.state;
  steps = with_step d.capacity d.steps d.state step;
}

-- a given number of orders back; the n-th last order and all later steps are forgotten
abbrev pub after_back : Debugging → ℕ → Debugging
after_back d orders = record d {
  state = state_back orders d.steps d.state;
  steps = steps_back orders d.steps;
}

-- after a given number of orders, each of them kept
unfoldable pub performed : Debugging → ℕ → Debugging
performed d zero = d
performed d (suc count) = after_step (performed d count) Perform

-- where the order came from that begins here: one in the instruction register alone has no place
abbrev pub order_origin : Debugging → Option Origin
order_origin d =
    option_and_then (λ place. latest_change place d.steps) (place_in (begun_order d.state.core))

-- where the order came from that begins after a given number of others
unfoldable pub order_origins : Debugging → ℕ → Option Origin
order_origins d count = order_origin (performed d count)

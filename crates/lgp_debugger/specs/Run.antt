-- Part of the public promise: runs, and what one comes to. That depends alone on the rules and on
-- the state in which it begins.
use Rattle.std.specs.Prelude.{◌≡◌, ◌↔◌, ℕ, zero, suc, ◌+◌, ◌<◌, Bool, false, List, Option, Some}
use Rattle.std.specs.Prelude.{None, Result, Ok, Err, IfErr, IsTrue, if◌then◌else◌, position}
use Rattle.lgp_table.specs.State.{State}
use Rattle.lgp_table.specs.Activity.{cost, next}
use Rattle.lgp_table.specs.Console.{is_at_rest}
use Rattle.lgp_machine.specs.Answers.{clock_end, passes_clock_end}
use Rattle.lgp_history.specs.Step.{Perform}
use Rattle.lgp_history.specs.Steps.{CanStep}
use Rattle.lgp_history.specs.Hits.{changes, goes_at}
use Rattle.lgp_history.specs.declared.rule.Rule.{Rule}
use Rattle.lgp_history.specs.declared.rule.Rule.TheVariants.{At, Changed}
use Rattle.lgp_debugger.specs.Debugging.{Debugging, after_step, performed}
use Rattle.lgp_debugger.specs.declared.fault.Ran.{Ran}
use Rattle.lgp_debugger.specs.declared.fault.Reason.{Reason}
use Rattle.lgp_debugger.specs.declared.fault.Reason.TheVariants as reasons
use Rattle.lgp_debugger.specs.declared.fault.RunFault.{RunFault}
use Rattle.lgp_debugger.specs.declared.fault.RunRefusal.TheVariants as refusals
use Rattle.lgp_debugger.specs.declared.fault.StepFault.{StepFault}
use Rattle.lgp_debugger.specs.declared.fault.StepFault.TheVariants.{AtRest, ClockEnd, Memory}

-- whether a rule stops a run after the order that begins in a state: `At` where the machine then is
-- going with this address at its counter, `Changed` where the order left another word at this
-- address
abbrev pub stops_run : State → Rule → Bool
stops_run before (At address) = goes_at (next before) address
stops_run before (Changed address) = changes before address

-- the number of the first rule that does
abbrev pub first_stop : List Rule → State → Option ℕ
first_stop rules before = position (stops_run before) rules

-- a run that ends before any order
abbrev pub ended_for : Reason → Result Ran RunFault
ended_for reason = Ok (record { orders = 0; reason = reason })

-- a run with one order before it
abbrev pub one_order_more : Result Ran RunFault → Result Ran RunFault
one_order_more (Ok ran) = Ok (record ran { orders = ran.orders + 1 })
one_order_more (Err fault) = Err (record fault { orders = fault.orders + 1 })

-- after an order: a rule that stops there ends the run
abbrev pub unless_stopped : Option ℕ → Result Ran RunFault → Result Ran RunFault
unless_stopped None rest = rest
unless_stopped (Some number) rest = ended_for (reasons.Rule number)

-- a run of at most a given number of orders: again and again, at rest it ends; when as many orders
-- as the limit are done it ends; where the next one would pass the clock's end it is broken off;
-- else that one is performed, and then the first rule that stops there ends it
unfoldable pub run_of : List Rule → ℕ → State → Result Ran RunFault
run_of rules zero s =
    if is_at_rest s.core.panel.status then ended_for reasons.Rest else ended_for reasons.Limit
run_of rules (suc more) s =
    if is_at_rest s.core.panel.status then ended_for reasons.Rest
    else (if passes_clock_end s then Err (record { orders = 0; fault = refusals.ClockEnd })
    else one_order_more (unless_stopped (first_stop rules s) (run_of rules more (next s))))

-- how many orders a run performed
abbrev pub orders_of : Result Ran RunFault → ℕ
orders_of (Ok ran) = ran.orders
orders_of (Err fault) = fault.orders

-- unless memory was refused in a run
abbrev pub UnlessMemory : Result Ran RunFault → Type 0 → Type 0
UnlessMemory (Ok ran) P = P
UnlessMemory (Err fault) P = fault.fault ≡ refusals.ClockEnd → P

-- what one order of a run answers, and where it leaves the debugger: it was performed, and a rule
-- stops there or none; the machine is at rest; the order would pass the clock's end; or it could be
-- performed, but for memory. Refused, all is as before
abbrev pub IsOrderOfRun : List Rule → Debugging → Debugging → Result (Option ℕ) StepFault → Type 0
IsOrderOfRun rules old new (Ok stop) =
    CanStep Perform old.state × (stop ≡ first_stop rules old.state) × (new ≡ after_step old Perform)
IsOrderOfRun rules old new (Err AtRest) =
    IsTrue (is_at_rest old.state.core.panel.status) × (new ≡ old)
IsOrderOfRun rules old new (Err ClockEnd) =
    (is_at_rest old.state.core.panel.status ≡ false)
    × (clock_end < old.state.clock + cost old.state) × (new ≡ old)
IsOrderOfRun rules old new (Err Memory) = CanStep Perform old.state × (new ≡ old)

-- what a run answers, and where it leaves the debugger: what it comes to, and each order performed
-- is kept. Where an order is refused, those before it remain; it is refused for the clock's end
-- where it would pass that, and else for memory
pub record IsRun (rules : List Rule) (limit : ℕ) (old new : Debugging)
    (answer : Result Ran RunFault) : Type 0 where
  pub ran : UnlessMemory answer (run_of rules limit old.state ≡ answer)
  pub stands : IfErr answer (λ fault. run_of rules fault.orders old.state
      ≡ Ok (record { orders = fault.orders; reason = reasons.Limit }))
  pub within : IfErr answer (λ fault. fault.orders < limit)
  pub clock_end : IfErr answer (λ fault. (fault.fault ≡ refusals.ClockEnd)
      ↔ (clock_end < new.state.clock + cost new.state))
  pub performed : new ≡ performed old (orders_of answer)

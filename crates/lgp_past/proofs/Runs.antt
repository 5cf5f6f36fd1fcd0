-- The orders of a run can be performed one after another.
use Rattle.std.proofs.Common.{◌≡◌, ℕ, zero, suc, ◌+◌, true, false, cond, refl, sym, subst, arith, List, Option, Some, None, Ok, Err}
use Rattle.std.specs.Prelude.{Result}
use Rattle.std.proofs.lemmas.Bool.{ltb-false}
use Rattle.lgp_table.specs.State.{State}
use Rattle.lgp_table.specs.Activity.{cost, next}
use Rattle.lgp_table.specs.Console.{is_at_rest}
use Rattle.lgp_table.proofs.After.{after_first, after_none}
use Rattle.lgp_machine.specs.Answers.{clock_end, passes_clock_end}
use Rattle.lgp_history.specs.Step.{Perform}
use Rattle.lgp_history.specs.Steps.{CanStep}
use Rattle.lgp_history.specs.declared.rule.Rule.{Rule}
use Rattle.lgp_debugger.specs.Debugging.{Debugging}
use Rattle.lgp_debugger.specs.Run.{IsRun, ended_for, first_stop, one_order_more, orders_of, run_of, unless_stopped}
use Rattle.lgp_debugger.specs.declared.fault.Ran.{Ran}
use Rattle.lgp_debugger.specs.declared.fault.Reason.TheVariants as reasons
use Rattle.lgp_debugger.specs.declared.fault.RunFault.{RunFault}
use Rattle.lgp_debugger.specs.declared.fault.RunRefusal.TheVariants as refusals
use Rattle.lgp_past.specs.Past.{CanPerform}
use Rattle.lgp_past.proofs.Orders.{can_none}

-- an order, and then others
can_first : (s : State) (count : ℕ) → CanStep Perform s → CanPerform (next s) count → CanPerform s (count + 1)
can_first s count can others zero h = subst (λ t. CanStep Perform t) (sym (after_none s)) can
can_first s count can others (suc k) h = subst (λ t. CanStep Perform t) (sym (after_first s k)) (others k (omega arith))

one_more : (run : Result Ran RunFault) → orders_of (one_order_more run) ≡ orders_of run + 1
one_more (Ok ran) = refl
one_more (Err fault) = refl

can_on : (stop : Option ℕ) (s : State) (run : Result Ran RunFault) → CanPerform s (orders_of run) → CanPerform s (orders_of (unless_stopped stop run))
can_on None s run can = can
can_on (Some number) s run can = can_none s

run_can : (rules : List Rule) (limit : ℕ) (s : State) → CanPerform s (orders_of (run_of rules limit s))
unfolding run_of
run_can rules zero s =
    elim (is_at_rest s.core.panel.status) as (λ b. CanPerform s (orders_of (cond b (ended_for reasons.Rest) (ended_for reasons.Limit))))
    [ true ↦ can_none s | false ↦ can_none s ]
run_can rules (suc more) s =
    let rest = one_order_more (unless_stopped (first_stop rules s) (run_of rules more (next s))) in
    elim (is_at_rest s.core.panel.status) as (λ b. is_at_rest s.core.panel.status ≡ b → CanPerform s (orders_of (cond b (ended_for reasons.Rest) (cond (passes_clock_end s) (Err (record { orders = 0; fault = refusals.ClockEnd })) rest)))) [
      | true ↦ λ is. can_none s
      | false ↦ λ busy.
          elim (passes_clock_end s) as (λ b. passes_clock_end s ≡ b → CanPerform s (orders_of (cond b (Err (record { orders = 0; fault = refusals.ClockEnd })) rest))) [
            | true ↦ λ is. can_none s
            | false ↦ λ within.
                let others = can_on (first_stop rules s) (next s) (run_of rules more (next s)) (run_can rules more (next s)) in
                subst (λ n. CanPerform s n) (sym (one_more (unless_stopped (first_stop rules s) (run_of rules more (next s)))))
                (can_first s _ (busy, ltb-false clock_end (s.clock + cost s) within) others)
          ] refl
    ] refl

pub ran_can : (rules : List Rule) (limit : ℕ) (old new : Debugging) (answer : Result Ran RunFault) → IsRun rules limit old new answer → CanPerform old.state (orders_of answer)
ran_can rules limit old new (Ok ran) is = subst (λ (run : Result Ran RunFault). CanPerform old.state (orders_of run)) is.ran (run_can rules limit old.state)
ran_can rules limit old new (Err fault) is = subst (λ (run : Result Ran RunFault). CanPerform old.state (orders_of run)) is.stands (run_can rules fault.orders old.state)

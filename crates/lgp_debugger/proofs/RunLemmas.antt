-- A run in the middle: what was done so far, and what a run goes on to from here.
use Rattle.std.proofs.Common.{◌≡◌, ◌∙◌, ◌+◌, ◌-◌, ◌≤◌, ◌<◌, ℕ, zero, suc, Bool, true, false, List, Option, None, Some, Ok, Err, ap, refl, sym, subst, arith, add-zero, zero-add, lt-ltb, le-ltb}
use Rattle.std.specs.Prelude.{Result}
use Rattle.lgp_table.specs.State.{State}
use Rattle.lgp_table.specs.Activity.{cost, next}
use Rattle.lgp_table.specs.Console.{is_at_rest}
use Rattle.lgp_machine.specs.Answers.{clock_end, passes_clock_end}
use Rattle.lgp_history.specs.Step.{Perform}
use Rattle.lgp_history.specs.Steps.{CanStep}
use Rattle.lgp_history.specs.declared.rule.Rule.{Rule}
use Rattle.lgp_debugger.specs.Debugging.{Debugging, performed}
use Rattle.lgp_debugger.specs.Run.{IsOrderOfRun, IsRun, ended_for, first_stop, one_order_more, run_of, unless_stopped}
use Rattle.lgp_debugger.specs.declared.fault.Ran.{Ran}
use Rattle.lgp_debugger.specs.declared.fault.Reason.TheVariants as reasons
use Rattle.lgp_debugger.specs.declared.fault.RunFault.{RunFault}
use Rattle.lgp_debugger.specs.declared.fault.RunRefusal.TheVariants as refusals
use Rattle.lgp_debugger.specs.declared.fault.StepFault.{StepFault}
use Rattle.lgp_debugger.specs.declared.fault.StepFault.TheVariants.{AtRest, ClockEnd, Memory}
use Rattle.lgp_debugger.proofs.PerformedLemmas.{performed_more, performed_none}

abbrev pub rests : State → Bool
rests s = is_at_rest s.core.panel.status

-- a given number of orders before a run
abbrev pub more : ℕ → Result Ran RunFault → Result Ran RunFault
more done (Ok ran) = Ok (record ran { orders = ran.orders + done })
more done (Err fault) = Err (record fault { orders = fault.orders + done })

no_more : (run : Result Ran RunFault) → more 0 run ≡ run
no_more (Ok ran) = ap (λ (n : ℕ). Ok (record ran { orders = n })) (add-zero ran.orders)
no_more (Err fault) = ap (λ (n : ℕ). Err (record fault { orders = n })) (add-zero fault.orders)

more_one : (done : ℕ) (run : Result Ran RunFault) → more done (one_order_more run) ≡ more (done + 1) run
more_one done (Ok ran) =
    grind arith
more_one done (Err fault) =
    grind arith

module _ (rules : List Rule) where
  at_rest : (n : ℕ) (s : State) → rests s ≡ true → run_of rules n s ≡ ended_for reasons.Rest
  unfolding run_of
  at_rest zero s e = rw e refl
  at_rest (suc n) s e = rw e refl

  no_order : (s : State) → rests s ≡ false → run_of rules 0 s ≡ ended_for reasons.Limit
  unfolding run_of
  no_order s e = rw e refl

  passing : (n : ℕ) (s : State) → rests s ≡ false → passes_clock_end s ≡ true → run_of rules (suc n) s ≡ Err (record { orders = 0; fault = refusals.ClockEnd })
  unfolding run_of
  passing n s e f = rw (e, f) refl

  an_order : (n : ℕ) (s : State) → CanStep Perform s → run_of rules (suc n) s ≡ one_order_more (unless_stopped (first_stop rules s) (run_of rules n (next s)))
  unfolding run_of
  an_order n s can = rw (can.0, le-ltb clock_end (s.clock + cost s) can.1) refl

-- a given number of orders were done without an end, and from here the run goes on
pub record HasRun (in_force : List Rule → List Rule) (first now : Debugging) (done : ℕ) : Type 0 where
  pub goes_on : (n : ℕ) → run_of (in_force first.rules) (done + n) first.state ≡ more done (run_of (in_force first.rules) n now.state)
  pub reached : now ≡ performed first done
  pub same_rules : now.rules ≡ first.rules

pub run_begun : (in_force : List Rule → List Rule) (d : Debugging) → HasRun in_force d d 0
run_begun in_force d = record {
  goes_on = λ n. ap (λ (k : ℕ). run_of (in_force d.rules) k d.state) (zero-add n) ∙ sym (no_more _);
  reached = performed_none d;
  same_rules = refl;
}

-- the next order, and how the run ends with it or goes on
module _ (in_force : List Rule → List Rule) (first now new : Debugging) (done limit : ℕ) (h : HasRun in_force first now done) where
  abbrev rules : List Rule
  rules = in_force first.rules

  abbrev IsOrder : Result (Option ℕ) StepFault → Type 0
  IsOrder answer = IsOrderOfRun (in_force now.rules) now new answer

  by_these : (answer reported : Result (Option ℕ) StepFault) → answer ≡ reported → IsOrder answer → IsOrderOfRun rules now new reported
  by_these answer reported is order =
      subst (λ (rs : List Rule). IsOrderOfRun (in_force rs) now new reported) h.same_rules (subst IsOrder is order)

  -- this run, given by what is left of it
  from_here : (n : ℕ) → limit ≡ done + n → run_of rules limit first.state ≡ more done (run_of rules n now.state)
  from_here n is = ap (λ (k : ℕ). run_of rules k first.state) is ∙ h.goes_on n

  ended : (ran : Ran) → run_of rules limit first.state ≡ Ok ran → new ≡ performed first ran.orders → IsRun rules limit first new (Ok ran)
  ended ran is reached = record { ran = is; stands = tt; within = tt; clock_end = tt; performed = reached }

  an_order_on : (n : ℕ) (stop : Option ℕ) → IsOrderOfRun rules now new (Ok stop)
      → run_of rules (done + suc n) first.state ≡ more done (one_order_more (unless_stopped stop (run_of rules n new.state)))
  an_order_on n stop order =
      h.goes_on (suc n) ∙ ap (more done) (an_order rules n now.state order.0)
      ∙ ap (λ (o : Option ℕ). more done (one_order_more (unless_stopped o (run_of rules n (next now.state))))) (sym order.1)
      ∙ ap (λ (d : Debugging). more done (one_order_more (unless_stopped stop (run_of rules n d.state)))) (sym order.2)

  pub run_step : (answer : Result (Option ℕ) StepFault) → answer ≡ Ok None → IsOrder answer → HasRun in_force first new (done + 1)
  run_step answer is order =
      let here = by_these _ _ is order in
      record {
        goes_on = λ n.
            let shift : done + 1 + n ≡ done + suc n = omega arith in
            ap (λ (k : ℕ). run_of rules k first.state) shift ∙ an_order_on n _ here ∙ more_one _ _;
        reached = performed_more _ _ _ _ h.reached here.2;
        same_rules = ap (λ (d : Debugging). d.rules) here.2 ∙ h.same_rules;
      }

  pub run_stopped : (answer : Result (Option ℕ) StepFault) (number : ℕ) → answer ≡ Ok (Some number) → IsOrder answer → done < limit
      → IsRun rules limit first new (Ok (record { orders = done + 1; reason = reasons.Rule number }))
  run_stopped answer number is order below =
      let here = by_these _ _ is order in
      let shift : limit ≡ done + suc (limit - done - 1) = omega arith in
      let count : 0 + 1 + done ≡ done + 1 = omega arith in
      ended _ (ap (λ (k : ℕ). run_of rules k first.state) shift ∙ an_order_on _ _ here
      ∙ ap (λ (k : ℕ). Ok (record { orders = k; reason = reasons.Rule number })) count)
      (performed_more _ _ _ _ h.reached here.2)

  pub run_rested : done ≤ limit → rests now.state ≡ true → new ≡ now → IsRun rules limit first new (Ok (record { orders = done; reason = reasons.Rest }))
  run_rested within rest same =
      ended _ (from_here (limit - done) (omega arith) ∙ ap (more done) (at_rest _ _ now.state rest)
      ∙ ap (λ (k : ℕ). Ok (record { orders = k; reason = reasons.Rest })) (zero-add done))
      (same ∙ h.reached)

  -- at rest no order is performed
  pub run_refused_at_rest : (answer : Result (Option ℕ) StepFault) → answer ≡ Err AtRest → IsOrder answer → done < limit
      → IsRun rules limit first new (Ok (record { orders = done; reason = reasons.Rest }))
  run_refused_at_rest answer is order below = let here = by_these _ _ is order in run_rested (omega arith) here.0 here.1

  pub done_all : rests now.state ≡ false → run_of rules done first.state ≡ Ok (record { orders = done; reason = reasons.Limit })
  done_all busy =
      ap (λ (k : ℕ). run_of rules k first.state) (sym (add-zero done)) ∙ h.goes_on 0 ∙ ap (more done) (no_order rules now.state busy)
      ∙ ap (λ (k : ℕ). Ok (record { orders = k; reason = reasons.Limit })) (zero-add done)

  pub run_limited : limit ≡ done → rests now.state ≡ false → new ≡ now → IsRun rules limit first new (Ok (record { orders = limit; reason = reasons.Limit }))
  run_limited all busy same =
      ended _ (subst (λ (k : ℕ). run_of rules k first.state ≡ Ok (record { orders = k; reason = reasons.Limit })) (sym all) (done_all busy))
      (same ∙ h.reached ∙ ap (performed first) (sym all))

  pub run_refused_at_clock_end : (answer : Result (Option ℕ) StepFault) → answer ≡ Err ClockEnd → IsOrder answer → done < limit
      → IsRun rules limit first new (Err (record { orders = done; fault = refusals.ClockEnd }))
  run_refused_at_clock_end answer is order below =
      let here = by_these _ _ is order in
      let past : clock_end < new.state.clock + cost new.state = subst (λ (d : Debugging). clock_end < d.state.clock + cost d.state) (sym here.2) here.1 in
      record {
        ran = λ _. from_here (suc (limit - done - 1)) (omega arith)
            ∙ ap (more done) (passing rules (limit - done - 1) now.state here.0 (lt-ltb clock_end (now.state.clock + cost now.state) here.1))
            ∙ ap (λ (k : ℕ). Err (record { orders = k; fault = refusals.ClockEnd })) (zero-add done);
        stands = done_all here.0;
        within = below;
        clock_end = (λ _. past, λ _. refl);
        performed = here.2 ∙ h.reached;
      }

  pub run_refused_memory : (answer : Result (Option ℕ) StepFault) → answer ≡ Err Memory → IsOrder answer → done < limit
      → IsRun rules limit first new (Err (record { orders = done; fault = refusals.Memory }))
  run_refused_memory answer is order below =
      let here = by_these _ _ is order in
      let room : new.state.clock + cost new.state ≤ clock_end = subst (λ (d : Debugging). d.state.clock + cost d.state ≤ clock_end) (sym here.1) here.0.1 in
      record {
        ran = λ e. cc;
        stands = done_all here.0.0;
        within = below;
        clock_end = (λ e. cc, λ past. absurd (omega arith));
        performed = here.1 ∙ h.reached;
      }

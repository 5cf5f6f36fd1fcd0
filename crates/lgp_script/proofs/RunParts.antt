-- The first orders of a run, and whether it goes on after them.
use Rattle.std.proofs.Common.{◌≡◌, ℕ, zero, suc, ◌+◌, ◌-◌, ◌≤◌, ◌<◌, Bool, true, false, not, List, Option, Some, None, Ok, Err, Result, min, nat_lt, refl, ap, arith, sym, subst, ◌∙◌, ⊎_elim}
use Rattle.std.proofs.lemmas.Bool.Decides.{nat_tests}
use Rattle.std.proofs.lemmas.Bool.{cases_lt}
use Rattle.lgp_table.specs.State.{State}
use Rattle.lgp_table.specs.Activity.{next}
use Rattle.lgp_table.specs.After.{after}
use Rattle.lgp_table.specs.Console.{is_at_rest}
use Rattle.lgp_table.proofs.After.{after_first, after_none}
use Rattle.lgp_machine.specs.Answers.{passes_clock_end}
use Rattle.lgp_history.specs.declared.rule.Rule.{Rule}
use Rattle.lgp_debugger.specs.Run.{ended_for, first_stop, one_order_more, orders_of, run_of, unless_stopped}
use Rattle.lgp_debugger.specs.declared.fault.Ran.{Ran}
use Rattle.lgp_debugger.specs.declared.fault.Reason.{Reason}
use Rattle.lgp_debugger.specs.declared.fault.Reason.TheVariants.{Rest, Limit, Rule as ByRule}
use Rattle.lgp_debugger.specs.declared.fault.RunFault.{RunFault}
use Rattle.lgp_debugger.specs.declared.fault.RunRefusal.TheVariants as refusals
use Rattle.lgp_debugger.specs.Debugging.{Debugging}
use Rattle.lgp_debugger.specs.Run.{IsRun}
use Rattle.lgp_debugger.proofs.PerformedLemmas.{performed_state}
use Rattle.lgp_script.proofs.RunAgain.{at_end, goes_on}
use Rattle.lgp_script.specs.LabState.{LabState}
use Rattle.lgp_script.specs.LaboratoryInside.{goes_past}
use Rattle.lgp_script.specs.RunPart.{IsRunPart, orders_of_run, rules_if}

module _ (rules : List Rule) where
  abbrev orders_in : ℕ → State → ℕ
  orders_in limit s = orders_of (run_of rules limit s)

  -- ---- runs by their first state

  none_rest : (s : State) → is_at_rest s.core.panel.status ≡ true → run_of rules 0 s ≡ ended_for Rest
  unfolding run_of
  none_rest s is = rw is refl

  none_busy : (s : State) → is_at_rest s.core.panel.status ≡ false → run_of rules 0 s ≡ ended_for Limit
  unfolding run_of
  none_busy s is = rw is refl

  more_rest : (n : ℕ) (s : State) → is_at_rest s.core.panel.status ≡ true → run_of rules (suc n) s ≡ ended_for Rest
  unfolding run_of
  more_rest n s is = rw is refl

  more_end : (n : ℕ) (s : State) → is_at_rest s.core.panel.status ≡ false → passes_clock_end s ≡ true → run_of rules (suc n) s ≡ Err (record { orders = 0; fault = refusals.ClockEnd })
  unfolding run_of
  more_end n s busy ends = rw (busy, ends) refl

  more_on : (n : ℕ) (s : State) (stop : Option ℕ) → first_stop rules s ≡ stop → is_at_rest s.core.panel.status ≡ false → passes_clock_end s ≡ false
      → run_of rules (suc n) s ≡ one_order_more (unless_stopped stop (run_of rules n (next s)))
  unfolding run_of
  more_on n s stop is busy within = rw (busy, within, is) refl

  resting : (n : ℕ) (s : State) → is_at_rest s.core.panel.status ≡ true → orders_in n s ≡ 0
  resting zero s rest = ap orders_of (none_rest s rest)
  resting (suc n) s rest = ap orders_of (more_rest n s rest)

  -- ---- a run that is asked for more orders

  -- what a run comes to where it is asked for some orders more
  abbrev going_on : ℕ → State → ℕ → Reason → ℕ
  going_on more s n Limit = n + orders_in more (after s n)
  going_on more s n reason = n

  abbrev continued : ℕ → State → Result Ran RunFault → ℕ
  continued more s (Ok ran) = going_on more s ran.orders ran.reason
  continued more s (Err fault) = fault.orders

  going_first : (more : ℕ) (s : State) (n : ℕ) (reason : Reason) → going_on more s (n + 1) reason ≡ suc (going_on more (next s) n reason)
  going_first more s n Limit =
      let shift : n + 1 ≡ suc n = omega arith in
      let same : after s (n + 1) ≡ after (next s) n = ap (after s) shift ∙ after_first s n in
      let counts : orders_in more (after s (n + 1)) ≡ orders_in more (after (next s) n) = ap (orders_in more) same in
      omega (arith, counts)
  going_first more s n Rest = omega arith
  going_first more s n (ByRule number) = omega arith

  first : (more : ℕ) (s : State) (run : Result Ran RunFault) → continued more s (one_order_more run) ≡ suc (continued more (next s) run)
  first more s (Ok ran) = going_first more s ran.orders ran.reason
  first more s (Err fault) = omega arith

  one_more : (run : Result Ran RunFault) → orders_of (one_order_more run) ≡ suc (orders_of run)
  one_more (Ok ran) = omega arith
  one_more (Err fault) = omega arith

  longer_so : (most more : ℕ) (s : State) (rests ends : Bool) (stop : Option ℕ) → is_at_rest s.core.panel.status ≡ rests → passes_clock_end s ≡ ends → first_stop rules s ≡ stop
      → orders_in (most + more) s ≡ continued more s (run_of rules most s)
  longer_so zero more s true ends stop r e is = resting _ s r ∙ sym (ap (continued more s) (none_rest s r))
  longer_so zero more s false ends stop r e is =
      let same : 0 + more ≡ more = omega arith in
      let here : orders_in more (after s 0) ≡ orders_in more s = ap (orders_in more) (after_none s) in
      let all : orders_in more s ≡ 0 + orders_in more (after s 0) = omega (arith, here) in
      ap (λ (n : ℕ). orders_in n s) same ∙ (all ∙ sym (ap (continued more s) (none_busy s r)))
  longer_so (suc most) more s true ends stop r e is = resting _ s r ∙ sym (ap (continued more s) (more_rest most s r))
  longer_so (suc most) more s false true stop r e is =
      let shift : suc most + more ≡ suc (most + more) = omega arith in
      ap (λ (n : ℕ). orders_in n s) shift ∙ (ap orders_of (more_end (most + more) s r e) ∙ sym (ap (continued more s) (more_end most s r e)))
  longer_so (suc most) more s false false (Some number) r e is =
      let shift : suc most + more ≡ suc (most + more) = omega arith in
      ap (λ (n : ℕ). orders_in n s) shift ∙ (ap orders_of (more_on (most + more) s (Some number) is r e) ∙ sym (ap (continued more s) (more_on most s (Some number) is r e)))
  longer_so (suc most) more s false false None r e is =
      let shift : suc most + more ≡ suc (most + more) = omega arith in
      ap (λ (n : ℕ). orders_in n s) shift ∙ (ap orders_of (more_on (most + more) s None is r e)
      ∙ (one_more (run_of rules (most + more) (next s)) ∙ (ap suc (longer_so most more (next s) _ _ _ refl refl refl)
      ∙ (sym (first more s (run_of rules most (next s))) ∙ sym (ap (continued more s) (more_on most s None is r e))))))

  longer : (most more : ℕ) (s : State) → orders_in (most + more) s ≡ continued more s (run_of rules most s)
  longer most more s = longer_so most more s _ _ _ refl refl refl

  -- ---- what a run comes to

  -- it performs no more orders than it is asked for; and as many, without coming to rest, where it ends for that
  abbrev Reached : ℕ → State → ℕ → Reason → Type 0
  Reached limit s n Limit = (n ≡ limit) × (is_at_rest (after s n).core.panel.status ≡ false)
  Reached limit s n reason = n ≤ limit

  abbrev Comes : ℕ → State → Result Ran RunFault → Type 0
  Comes limit s (Ok ran) = Reached limit s ran.orders ran.reason
  Comes limit s (Err fault) = fault.orders ≤ limit

  reached_first : (limit : ℕ) (s : State) (n : ℕ) (reason : Reason) → Reached limit (next s) n reason → Reached (suc limit) s (n + 1) reason
  reached_first limit s n Limit is =
      let shift : n + 1 ≡ suc n = omega arith in
      let same : after s (n + 1) ≡ after (next s) n = ap (after s) shift ∙ after_first s n in
      (let e : n ≡ limit = is.0 in omega (arith, e), ap (λ (t : State). is_at_rest t.core.panel.status) same ∙ is.1)
  reached_first limit s n Rest is = omega (arith, is)
  reached_first limit s n (ByRule number) is = omega (arith, is)

  comes_first : (limit : ℕ) (s : State) (run : Result Ran RunFault) → Comes limit (next s) run → Comes (suc limit) s (one_order_more run)
  comes_first limit s (Ok ran) is = reached_first limit s ran.orders ran.reason is
  comes_first limit s (Err fault) is = omega (arith, is)

  comes_so : (limit : ℕ) (s : State) (rests ends : Bool) (stop : Option ℕ) → is_at_rest s.core.panel.status ≡ rests → passes_clock_end s ≡ ends → first_stop rules s ≡ stop
      → Comes limit s (run_of rules limit s)
  comes_so zero s true ends stop r e is = subst (Comes 0 s) (sym (none_rest s r)) (omega arith)
  comes_so zero s false ends stop r e is =
      subst (Comes 0 s) (sym (none_busy s r)) (refl, ap (λ (t : State). is_at_rest t.core.panel.status) (after_none s) ∙ r)
  comes_so (suc limit) s true ends stop r e is = subst (Comes (suc limit) s) (sym (more_rest limit s r)) (omega arith)
  comes_so (suc limit) s false true stop r e is = subst (Comes (suc limit) s) (sym (more_end limit s r e)) (omega arith)
  comes_so (suc limit) s false false (Some number) r e is =
      subst (Comes (suc limit) s) (sym (more_on limit s (Some number) is r e)) (omega arith)
  comes_so (suc limit) s false false None r e is =
      subst (Comes (suc limit) s) (sym (more_on limit s None is r e)) (comes_first limit s (run_of rules limit (next s)) (comes_so limit (next s) _ _ _ refl refl refl))

  comes : (limit : ℕ) (s : State) (run : Result Ran RunFault) → run_of rules limit s ≡ run → Comes limit s run
  comes limit s run is = subst (Comes limit s) is (comes_so limit s _ _ _ refl refl refl)

  few : (limit : ℕ) (s : State) (run : Result Ran RunFault) → Comes limit s run → orders_of run ≤ limit
  few limit s (Ok ran) is = few_for ran.reason is where
    few_for : (reason : Reason) → Reached limit s ran.orders reason → ran.orders ≤ limit
    few_for Limit is = let e : ran.orders ≡ limit = is.0 in omega (arith, e)
    few_for Rest is = is
    few_for (ByRule number) is = is
  few limit s (Err fault) is = is

  -- ---- the first orders of a run

  abbrev Part : ℕ → ℕ → State → Result Ran RunFault → Type 0
  Part limit most s run = orders_of run ≡ min most (orders_in limit s)

  -- an order more, where there is one
  one_there : (more : ℕ) (s : State) → is_at_rest s.core.panel.status ≡ false → passes_clock_end s ≡ false → 1 ≤ orders_in (suc more) s
  one_there more s busy within =
      let counts : orders_in (suc more) s ≡ suc (orders_of (unless_stopped (first_stop rules s) (run_of rules more (next s)))) = goes_on rules more s _ refl busy within in
      omega (arith, counts)

  none_there : (more : ℕ) (s : State) → is_at_rest s.core.panel.status ≡ false → passes_clock_end s ≡ true → orders_in (suc more) s ≡ 0
  none_there more s busy ends = at_end rules more s busy ends

  module _ (limit most : ℕ) (s : State) where
    abbrev all : ℕ
    all = orders_in limit s

    abbrev pub GoesOn : ℕ → Reason → Type 0
    GoesOn n reason = goes_past limit most reason (after s n) ≡ nat_lt most all

    -- where all orders are asked for
    whole : (run : Result Ran RunFault) → limit ≤ most → run_of rules limit s ≡ run → Part limit most s run × (all ≤ most)
    whole run within is =
        let counts : all ≡ orders_of run = ap orders_of is in
        let enough : orders_of run ≤ limit = few limit s run (comes limit s run is) in
        (omega (arith, counts), omega (arith, counts))

    module _ (below : most < limit) where
      abbrev left : ℕ
      left = limit - most - 1

      total : (run : Result Ran RunFault) → run_of rules most s ≡ run → all ≡ continued (suc left) s run
      total run is =
          let same : limit ≡ most + suc (limit - most - 1) = omega (arith, below) in
          ap (λ (n : ℕ). orders_in n s) same ∙ (longer most (suc left) s ∙ ap (continued (suc left) s) is)

      first_reached : (n : ℕ) (reason : Reason) → Reached most s n reason → all ≡ going_on (suc left) s n reason → n ≡ min most all
      first_reached n Limit is counts = let same : n ≡ most = is.0 in omega (arith, counts, same)
      first_reached n Rest is counts = omega (arith, counts, is)
      first_reached n (ByRule number) is counts = omega (arith, counts, is)

      first_part : (run : Result Ran RunFault) → Comes most s run → all ≡ continued (suc left) s run → Part limit most s run
      first_part (Ok ran) is counts = first_reached ran.orders ran.reason is counts
      first_part (Err fault) is counts = omega (arith, counts, is)

      by_end : (n : ℕ) (ends : Bool) → passes_clock_end (after s n) ≡ ends → Reached most s n Limit → all ≡ going_on (suc left) s n Limit → not ends ≡ nat_lt most all
      by_end n true e is counts =
          let none : orders_in (suc left) (after s n) ≡ 0 = none_there left (after s n) is.1 e in
          let same : n ≡ most = is.0 in
          let bound : all ≤ most = omega (arith, counts, none, same) in
          grind (arith, nat_tests)
      by_end n false e is counts =
          let some : 1 ≤ orders_in (suc left) (after s n) = one_there left (after s n) is.1 e in
          let same : n ≡ most = is.0 in
          let bound : most < all = omega (arith, counts, some, same) in
          grind (arith, nat_tests)

      test : nat_lt most limit ≡ true
      test = grind (arith, nat_tests)

      none_more : (n : ℕ) → n ≤ most → all ≡ n → false ≡ nat_lt most all
      none_more n is counts =
          let bound : all ≤ most = omega (arith, counts, is) in
          grind (arith, nat_tests)

      goes_reached : (n : ℕ) (reason : Reason) → Reached most s n reason → all ≡ going_on (suc left) s n reason → GoesOn n reason
      goes_reached n Limit is counts = rw test (by_end n (passes_clock_end (after s n)) refl is counts)
      goes_reached n Rest is counts = rw test (none_more n is counts)
      goes_reached n (ByRule number) is counts = rw test (none_more n is counts)

    pub part_of : (run : Result Ran RunFault) → run_of rules (min limit most) s ≡ run → orders_of run ≡ min most all
    part_of run is = ⊎_elim
        (λ (below : most < limit).
        let same : min limit most ≡ most = omega (arith, below) in
        let here : run_of rules most s ≡ run = ap (λ (n : ℕ). run_of rules n s) (sym same) ∙ is in
        first_part below run (comes most s run here) (total below run here))
        (λ (within : limit ≤ most).
        let same : min limit most ≡ limit = omega (arith, within) in
        (whole run within (ap (λ (n : ℕ). run_of rules n s) (sym same) ∙ is)).0)
        (cases_lt most limit)

    pub part_goes_on : (ran : Ran) → run_of rules (min limit most) s ≡ Ok ran → GoesOn ran.orders ran.reason
    part_goes_on ran is = ⊎_elim
        (λ (below : most < limit).
        let same : min limit most ≡ most = omega (arith, below) in
        let here : run_of rules most s ≡ Ok ran = ap (λ (n : ℕ). run_of rules n s) (sym same) ∙ is in
        goes_reached below ran.orders ran.reason (comes most s (Ok ran) here) (total below (Ok ran) here))
        (λ (within : limit ≤ most).
        let same : min limit most ≡ limit = omega (arith, within) in
        let bound : all ≤ most = (whole (Ok ran) within (ap (λ (n : ℕ). run_of rules n s) (sym same) ∙ is)).1 in
        let none : nat_lt most limit ≡ false = grind (arith, nat_tests) in
        let over : nat_lt most all ≡ false = grind (arith, nat_tests) in
        rw (none, over) refl)
        (cases_lt most limit)

    pub part_broken : (fault : RunFault) → run_of rules (min limit most) s ≡ Err fault → false ≡ nat_lt most all
    part_broken fault is = ⊎_elim
        (λ (below : most < limit).
        let same : min limit most ≡ most = omega (arith, below) in
        let here : run_of rules most s ≡ Err fault = ap (λ (n : ℕ). run_of rules n s) (sym same) ∙ is in
        none_more below fault.orders (comes most s (Err fault) here) (total below (Err fault) here))
        (λ (within : limit ≤ most).
        let same : min limit most ≡ limit = omega (arith, within) in
        let bound : all ≤ most = (whole (Err fault) within (ap (λ (n : ℕ). run_of rules n s) (sym same) ∙ is)).1 in
        grind (arith, nat_tests))
        (cases_lt most limit)

-- ---- a laboratory after them

module _ (by_rules : Bool) (limit most : ℕ) (old new : LabState) (answer : Result Ran RunFault)
    (is : IsRun (rules_if by_rules old) (min limit most) old.debugger new.debugger answer) (same : new ≡ record old { debugger = new.debugger }) where
  abbrev rules : List Rule
  rules = rules_if by_rules old

  abbrev s : State
  s = old.debugger.state

  pub ran_part : (ran : Ran) (goes : Bool) → answer ≡ Ok ran → goes ≡ goes_past limit most ran.reason new.debugger.state
      → IsRunPart by_rules limit most old new (record { orders = ran.orders; goes_on = goes })
  unfolding orders_of_run
  ran_part ran goes e counted =
      let run : IsRun rules (min limit most) old.debugger new.debugger (Ok ran) = subst (λ (a : Result Ran RunFault). IsRun rules (min limit most) old.debugger new.debugger a) e is in
      let there : new.debugger.state ≡ after s ran.orders = ap (λ (d : Debugging). d.state) run.performed ∙ performed_state old.debugger ran.orders in
      record {
        orders = part_of rules limit most s (Ok ran) run.ran;
        goes_on = counted ∙ (ap (λ (t : State). goes_past limit most ran.reason t) there ∙ part_goes_on rules limit most s ran run.ran);
        after = same ∙ ap (λ (d : Debugging). record old { debugger = d }) run.performed;
      }

  pub broken_part : (fault : RunFault) → answer ≡ Err fault → fault.fault ≡ refusals.ClockEnd → IsRunPart by_rules limit most old new (record { orders = fault.orders; goes_on = false })
  unfolding orders_of_run
  broken_part fault e cause =
      let run : IsRun rules (min limit most) old.debugger new.debugger (Err fault) = subst (λ (a : Result Ran RunFault). IsRun rules (min limit most) old.debugger new.debugger a) e is in
      record {
        orders = part_of rules limit most s (Err fault) (run.ran cause);
        goes_on = part_broken rules limit most s fault (run.ran cause);
        after = same ∙ ap (λ (d : Debugging). record old { debugger = d }) run.performed;
      }

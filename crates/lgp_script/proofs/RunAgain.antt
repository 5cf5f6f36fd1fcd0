-- A run that is asked for as many orders as another one performed performs as many.
use Rattle.std.proofs.Common.{◌≡◌, ℕ, zero, suc, Bool, true, false, List, Option, Some, None, Ok, Err, Result, refl, ap, arith, sym, ◌∙◌}
use Rattle.lgp_table.specs.State.{State}
use Rattle.lgp_table.specs.Activity.{next}
use Rattle.lgp_table.specs.Console.{is_at_rest}
use Rattle.lgp_machine.specs.Answers.{passes_clock_end}
use Rattle.lgp_history.specs.declared.rule.Rule.{Rule}
use Rattle.lgp_debugger.specs.Debugging.{performed}
use Rattle.lgp_script.specs.HistoryCommands.{orders_run, replied_to_run}
use Rattle.lgp_script.specs.LabState.{LabState}
use Rattle.lgp_debugger.specs.Run.{first_stop, one_order_more, orders_of, run_of, unless_stopped}
use Rattle.lgp_debugger.specs.declared.fault.Ran.{Ran}
use Rattle.lgp_debugger.specs.declared.fault.RunFault.{RunFault}

counted : (run : Result Ran RunFault) → orders_of (one_order_more run) ≡ suc (orders_of run)
counted (Ok ran) = omega arith
counted (Err fault) = omega arith

module _ (rules : List Rule) where
  pub none : (rests : Bool) (s : State) → is_at_rest s.core.panel.status ≡ rests → orders_of (run_of rules 0 s) ≡ 0
  unfolding run_of
  none true s is = rw is refl
  none false s is = rw is refl

  -- the first order of such a run, and what comes after it
  pub goes_on : (limit : ℕ) (s : State) (stop : Option ℕ) → first_stop rules s ≡ stop
      → is_at_rest s.core.panel.status ≡ false → passes_clock_end s ≡ false
      → orders_of (run_of rules (suc limit) s) ≡ suc (orders_of (unless_stopped stop (run_of rules limit (next s))))
  unfolding run_of
  goes_on limit s stop is busy room = rw (busy, room, is) (counted (unless_stopped stop (run_of rules limit (next s))))

  pub at_once : (limit : ℕ) (s : State) → is_at_rest s.core.panel.status ≡ true → orders_of (run_of rules (suc limit) s) ≡ 0
  unfolding run_of
  at_once limit s rest = rw rest refl

  pub at_end : (limit : ℕ) (s : State) → is_at_rest s.core.panel.status ≡ false → passes_clock_end s ≡ true → orders_of (run_of rules (suc limit) s) ≡ 0
  unfolding run_of
  at_end limit s busy end = rw (busy, end) refl

  same : (n m : ℕ) (s : State) → n ≡ m → orders_of (run_of rules m s) ≡ m → orders_of (run_of rules n s) ≡ n
  same n m s is so = rw is so

  again : (limit : ℕ) (s : State) (rests ends : Bool) (stop : Option ℕ) → is_at_rest s.core.panel.status ≡ rests → passes_clock_end s ≡ ends → first_stop rules s ≡ stop
      → orders_of (run_of rules (orders_of (run_of rules limit s)) s) ≡ orders_of (run_of rules limit s)
  again zero s rests ends stop r e is = same _ 0 s (none rests s r) (none rests s r)
  again (suc limit) s true ends stop r e is = same _ 0 s (at_once limit s r) (none true s r)
  again (suc limit) s false true stop r e is = same _ 0 s (at_end limit s r e) (none false s r)
  again (suc limit) s false false (Some number) r e is = same _ 1 s (goes_on limit s (Some number) is r e) (goes_on 0 s (Some number) is r e)
  again (suc limit) s false false None r e is =
      let m = orders_of (run_of rules limit (next s)) in
      same _ (suc m) s (goes_on limit s None is r e) (goes_on m s None is r e ∙ ap suc (again limit (next s) _ _ _ refl refl refl))

  pub run_again : (limit : ℕ) (s : State) → orders_of (run_of rules (orders_of (run_of rules limit s)) s) ≡ orders_of (run_of rules limit s)
  run_again limit s = again limit s _ _ _ refl refl refl

-- and leaves the same
pub leaves_same : (lab : LabState) (limit orders : ℕ) → orders ≡ orders_run limit lab.debugger → (replied_to_run lab limit).after ≡ (replied_to_run lab orders).after
unfolding replied_to_run orders_run
leaves_same lab limit orders is =
    let d = lab.debugger in
    ap (λ (count : ℕ). record lab { debugger = performed d count })
    (sym (run_again d.rules limit d.state) ∙ ap (λ (count : ℕ). orders_of (run_of d.rules count d.state)) (sym is))

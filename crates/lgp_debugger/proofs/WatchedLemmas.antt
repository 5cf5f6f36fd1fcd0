-- A watched run in the middle, and how it ends.
use Rattle.std.proofs.Common.{◌≡◌, ◌+◌, ◌≤◌, ◌<◌, ℕ, suc, Bool, false, List, Option, Ok, Err, refl, subst, arith}
use Rattle.std.specs.Prelude.{Result, IsTrue}
use Rattle.lgp_history.specs.Step.{Perform}
use Rattle.lgp_history.specs.Steps.{CanStep}
use Rattle.lgp_history.specs.declared.rule.Rule.{Rule}
use Rattle.lgp_debugger.specs.Debugging.{Debugging, after_step, performed}
use Rattle.lgp_debugger.specs.Run.{IsOrderOfRun, IsRun, UnlessMemory}
use Rattle.lgp_debugger.specs.declared.fault.StepFault.{StepFault}
use Rattle.lgp_debugger.specs.Watching.{AreSeen, IsBrokenOff, IsWatchedOrder, IsWatchedRun}
use Rattle.lgp_debugger.specs.declared.watcher.WatchFault.{WatchFault}
use Rattle.lgp_debugger.specs.declared.watcher.WatchFault.TheVariants.{Refused, Unseen}
use Rattle.lgp_debugger.specs.declared.fault.Ran.{Ran}
use Rattle.lgp_debugger.specs.declared.fault.RunFault.{RunFault}
use Rattle.lgp_debugger.specs.declared.fault.RunRefusal.TheVariants as refusals
use Rattle.lgp_debugger.proofs.PerformedLemmas.{performed_more}
use Rattle.lgp_debugger.proofs.RunLemmas.{HasRun, done_all, rests}

pub none_seen : {Kept : Type 0} (Sees : Debugging → Kept → Kept → Type 0) (d : Debugging) (kept : Kept) → AreSeen Sees d kept 0 kept
unfolding AreSeen
none_seen Sees d kept = refl

pub more_seen : {Kept : Type 0} (Sees : Debugging → Kept → Kept → Type 0) (d now : Debugging) (first kept more : Kept) (done : ℕ) → now ≡ performed d done
    → AreSeen Sees d first done kept → Sees now kept more → AreSeen Sees d first (done + 1) more
unfolding AreSeen
more_seen Sees d now first kept more done reached so_far seen =
    let count : done + 1 ≡ suc done = omega arith in
    rw count (kept, so_far, subst (λ (e : Debugging). Sees e kept more) reached seen)

-- broken off after as many orders as were seen, or one more
pub broken_off : (in_force : List Rule → List Rule) (first now : Debugging) (done orders : ℕ) → HasRun in_force first now done → rests now.state ≡ false
    → done ≤ orders → orders ≤ done + 1 → IsBrokenOff (in_force first.rules) first.state orders
broken_off in_force first now done orders run goes least most =
    (done, least, most, done_all in_force first now now done done run goes)

-- a run as one without a watcher, all of which was seen
pub all_watched : (never : Bool) (rs : List Rule) (limit : ℕ) (old new : Debugging) (ran : Ran) (Seen : Type 0)
    → IsRun rs limit old new (Ok ran) → ran.orders ≤ limit → Seen → IsWatchedRun never rs limit old new (Ok ran) Seen
all_watched never rs limit old new ran Seen run within seen = record {
  ran = run.ran;
  stands = tt;
  within = within;
  performed = run.performed;
  seen = seen;
  run = λ _. run;
  all_seen = λ _. seen;
}

pub broken_watched : (never : Bool) (rs : List Rule) (limit : ℕ) (old new : Debugging) (fault : RunFault) (Seen : Type 0)
    → IsRun rs limit old new (Err fault) → Seen → IsWatchedRun never rs limit old new (Err fault) Seen
broken_watched never rs limit old new fault Seen run seen = record {
  ran = run.ran;
  stands = (fault.orders, omega arith, omega arith, run.stands);
  within = let below = run.within in omega arith;
  performed = run.performed;
  seen = λ _. seen;
  run = λ _. run;
  all_seen = λ _. seen;
}

-- the last order was performed, and not seen
pub unseen_watched : (never : Bool) (in_force : List Rule → List Rule) (limit : ℕ) (first now new : Debugging) (done : ℕ) (Seen : Type 0) → HasRun in_force first now done
    → CanStep Perform now.state × (new ≡ after_step now Perform) → (IsTrue never → ⊥) → done < limit
    → IsWatchedRun never (in_force first.rules) limit first new (Err (record { orders = done + 1; fault = refusals.Memory })) Seen
unseen_watched never in_force limit first now new done Seen run order refused below = record {
  ran = λ is. cc;
  stands = broken_off in_force first now done (done + 1) run order.0.0 (omega arith) (omega arith);
  within = omega arith;
  performed = performed_more _ _ _ _ run.reached order.1;
  seen = λ is. cc;
  run = λ is. absurd (refused is);
  all_seen = λ is. absurd (refused is);
}

unless_memory : (answer : Result Ran RunFault) (P Q : Type 0) → (P → Q) → UnlessMemory answer P → UnlessMemory answer Q
unless_memory (Ok ran) P Q so p = so p
unless_memory (Err fault) P Q so p = λ is. so (p is)

-- what was seen, said in other words
pub seen_so : (never : Bool) (rs : List Rule) (limit : ℕ) (old new : Debugging) (answer : Result Ran RunFault) (P Q : Type 0) → (P → Q)
    → IsWatchedRun never rs limit old new answer P → IsWatchedRun never rs limit old new answer Q
seen_so never rs limit old new answer P Q so run = record {
  ran = run.ran;
  stands = run.stands;
  within = run.within;
  performed = run.performed;
  seen = unless_memory answer P Q so run.seen;
  run = run.run;
  all_seen = λ is. so (run.all_seen is);
}

-- an order by the rules that are in force at the watcher that had it performed, which are those of the first one
module _ (at in_force : List Rule → List Rule) (same : at ≡ in_force) (now new : Debugging) where
  pub ordered : (stop : Option ℕ) → IsWatchedOrder (at now.rules) now new (Ok stop) → IsOrderOfRun (in_force now.rules) now new (Ok stop)
  ordered stop order = subst (λ (force : List Rule → List Rule). IsOrderOfRun (force now.rules) now new (Ok stop)) same order

  pub refused : (fault : WatchFault) (why : StepFault) → fault ≡ Refused why → IsWatchedOrder (at now.rules) now new (Err fault) → IsOrderOfRun (in_force now.rules) now new (Err why)
  refused fault why is order =
      subst (λ (force : List Rule → List Rule). IsOrderOfRun (force now.rules) now new (Err why)) same
      (subst (λ (f : WatchFault). IsWatchedOrder (at now.rules) now new (Err f)) is order)

pub unseen : (rs : List Rule) (now new : Debugging) (fault : WatchFault) → fault ≡ Unseen → IsWatchedOrder rs now new (Err fault) → CanStep Perform now.state × (new ≡ after_step now Perform)
unseen rs now new fault is order = subst (λ (f : WatchFault). IsWatchedOrder rs now new (Err f)) is order

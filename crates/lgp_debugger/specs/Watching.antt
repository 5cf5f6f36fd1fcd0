-- Part of the public promise: runs that something watches, order by order. A watcher adds to what it
-- keeps of the orders, as a text or sums, and may be refused memory for that.
use Rattle.std.specs.Prelude.{◌≡◌, ℕ, zero, suc, ◌+◌, ◌≤◌, Bool, if◌then◌else◌, List, [], Option}
use Rattle.std.specs.Prelude.{Result, Ok, Err, IfErr, IsTrue}
use Rattle.lgp_table.specs.State.{State}
use Rattle.lgp_history.specs.Step.{Perform}
use Rattle.lgp_history.specs.Steps.{CanStep}
use Rattle.lgp_history.specs.declared.rule.Rule.{Rule}
use Rattle.lgp_debugger.specs.Debugging.{Debugging, after_step, performed}
use Rattle.lgp_debugger.specs.Run.{IsOrderOfRun, IsRun, UnlessMemory, orders_of, run_of}
use Rattle.lgp_debugger.specs.declared.fault.Ran.{Ran}
use Rattle.lgp_debugger.specs.declared.fault.Reason.TheVariants.{Limit}
use Rattle.lgp_debugger.specs.declared.fault.RunFault.{RunFault}
use Rattle.lgp_debugger.specs.declared.watcher.WatchFault.{WatchFault}
use Rattle.lgp_debugger.specs.declared.watcher.WatchFault.TheVariants.{Refused, Unseen}

-- the rules that may stop a run: all of them, or none
abbrev pub rules_in_force : Bool → List Rule → List Rule
rules_in_force by_rules rules = if by_rules then rules else []

-- what one order of a watched run answers, and where it leaves the debugger: as an order of a run, or
-- it was performed and the watcher could not keep what it saw
abbrev pub IsWatchedOrder : List Rule → Debugging → Debugging → Result (Option ℕ) WatchFault
    → Type 0
IsWatchedOrder rules old new (Ok stop) = IsOrderOfRun rules old new (Ok stop)
IsWatchedOrder rules old new (Err (Refused fault)) = IsOrderOfRun rules old new (Err fault)
IsWatchedOrder rules old new (Err Unseen) =
    CanStep Perform old.state × (new ≡ after_step old Perform)

-- what a watcher keeps after a given number of orders, by what it keeps before and after each of
-- them
unfoldable pub AreSeen : {Kept : Type 0} → (Debugging → Kept → Kept → Type 0) → Debugging → Kept → ℕ
    → Kept → Type 0
AreSeen {Kept = Kept} Sees d first zero kept = kept ≡ first
AreSeen {Kept = Kept} Sees d first (suc count) kept =
    (before : Kept) × AreSeen Sees d first count before × Sees (performed d count) before kept

-- of a run that was broken off: as many orders were seen as are performed, or the last one was not;
-- and no rule has stopped it before that one
abbrev pub IsBrokenOff : List Rule → State → ℕ → Type 0
IsBrokenOff rules s orders =
    (seen : ℕ) × (seen ≤ orders) × (orders ≤ seen + 1)
    × (run_of rules seen s ≡ Ok (record { orders = seen; reason = Limit }))

-- what a watched run answers, where it leaves the debugger, and what was seen. Of a watcher that is
-- never refused memory it is a run as one without a watcher, and each order performed was seen
pub record IsWatchedRun (never : Bool) (rules : List Rule) (limit : ℕ) (old new : Debugging)
    (answer : Result Ran RunFault) (Seen : Type 0) : Type 0 where
  pub ran : UnlessMemory answer (run_of rules limit old.state ≡ answer)
  pub stands : IfErr answer (λ fault. IsBrokenOff rules old.state fault.orders)
  pub within : orders_of answer ≤ limit
  pub performed : new ≡ performed old (orders_of answer)
  pub seen : UnlessMemory answer Seen
  pub run : IsTrue never → IsRun rules limit old new answer
  pub all_seen : IsTrue never → Seen

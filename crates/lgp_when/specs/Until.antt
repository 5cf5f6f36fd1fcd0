-- Part of the public promise: runs that end with the order that meets a condition.
use Rattle.std.specs.Prelude.{◌≡◌, ℕ, zero, suc, ◌≤◌, ◌==◌, Bool, false, if◌then◌else◌, IfErr, IfOk}
use Rattle.std.specs.Prelude.{Result, Ok, Err}
use Rattle.lgp_table.specs.State.{State}
use Rattle.lgp_debugger.specs.Debugging.{Debugging}
use Rattle.lgp_debugger.specs.Run.{IsRun, orders_of}
use Rattle.lgp_debugger.specs.declared.fault.Ran.{Ran}
use Rattle.lgp_debugger.specs.declared.fault.RunFault.{RunFault}
use Rattle.lgp_when.specs.When.{times_met}
use Rattle.lgp_when.specs.declared.until.RanUntil.{RanUntil}
use Rattle.lgp_when.specs.declared.until.Until.{Until}

-- the least number below a limit that passes a test, or the limit
unfoldable pub least : (ℕ → Bool) → ℕ → ℕ
least passes zero = 0
least passes (suc limit) =
    if passes 0 then 0 else suc (least (λ number. passes (suc number)) limit)

-- whether a number of orders meet a condition as often as is waited for
abbrev pub is_done : Until → State → ℕ → Bool
is_done until s orders = times_met until.condition s orders == until.times

-- after how many orders of at most a number of them it is met that often, or that number
abbrev pub orders_until : Until → ℕ → State → ℕ
orders_until until limit s = least (is_done until s) limit

abbrev pub ran_of : Result RanUntil RunFault → Result Ran RunFault
ran_of (Ok until) = Ok until.ran
ran_of (Err fault) = Err fault

-- a run that ends there, unless something else ends it earlier; and whether the condition was met,
-- which it was not where the run was broken off
pub record IsRunUntil (until : Until) (limit : ℕ) (old new : Debugging)
    (answer : Result RanUntil RunFault) : Type 0 where
  pub run : IsRun old.rules (orders_until until limit old.state) old new (ran_of answer)
  pub met : IfOk answer (λ ended. ended.is_met ≡ is_done until old.state ended.ran.orders)
  pub unmet : IfErr answer (λ fault. is_done until old.state fault.orders ≡ false)
  pub within : orders_of (ran_of answer) ≤ limit

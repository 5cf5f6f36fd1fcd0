-- Part of the public promise: which orders of a session meet a condition.
use Rattle.std.specs.Prelude.{◌≡◌, ◌<◌, ℕ, zero, suc, Bool, if◌then◌else◌, Option, Some, None}
use Rattle.std.specs.Prelude.{IfSome, List}
use Rattle.std.specs.Option.{option_or}
use Rattle.lgp_when.specs.When.{meets}
use Rattle.lgp_when.specs.declared.condition.Condition.{Condition}
use Rattle.lgp_script.specs.LabState.{LabState}
use Rattle.lgp_moment.specs.Moment.{all_orders, state_at}
use Rattle.lgp_moment.specs.declared.search.Sought.{Sought}
use Rattle.lgp_moment.specs.declared.search.Which.{Which}
use Rattle.lgp_moment.specs.declared.search.Which.TheVariants.{First, Last}

-- with one order more that passes a test or not
abbrev pub chosen : Which → Bool → ℕ → Option ℕ → Option ℕ
chosen First passes order found = option_or found (if passes then Some order else None)
chosen Last passes order found = if passes then Some order else found

-- of a number of orders, which are counted from 0, the first or the last one that passes a test
unfoldable pub sought : Which → (ℕ → Bool) → ℕ → Option ℕ
sought which passes zero = None
sought which passes (suc count) =
    chosen which (passes count) count (sought which passes count)

-- of all orders of a session, the first or the last one that meets a condition
abbrev pub order_sought : Which → Condition → LabState → List (List ℕ) → Option ℕ
order_sought which condition lab lines =
    sought which (λ order. meets (state_at lab lines order) condition) (all_orders lab lines)

-- it is so, and how many orders there are
pub record IsSought (which : Which) (condition : Condition) (lab : LabState)
    (lines : List (List ℕ)) (sought : Sought) : Type 0 where
  pub order : sought.order ≡ order_sought which condition lab lines
  pub orders : sought.orders ≡ all_orders lab lines
  pub within : IfSome sought.order (λ order. order < sought.orders)

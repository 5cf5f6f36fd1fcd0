-- A debugger after orders that were performed one after another.
use Rattle.std.proofs.Common.{◌≡◌, ◌+◌, ℕ, zero, suc, ap, arith, refl}
use Rattle.lgp_table.specs.Activity.{next}
use Rattle.lgp_table.specs.After.{after}
use Rattle.lgp_history.specs.Step.{Perform}
use Rattle.lgp_debugger.specs.Debugging.{Debugging, after_step, performed}

pub performed_none : (first : Debugging) → first ≡ performed first 0
unfolding performed
performed_none first = refl

pub performed_more : (first now new : Debugging) (done : ℕ) → now ≡ performed first done → new ≡ after_step now Perform → new ≡ performed first (done + 1)
unfolding performed
performed_more first now new done reached moved =
    grind arith

-- and the state that they lead to
pub performed_state : (first : Debugging) (done : ℕ) → (performed first done).state ≡ after first.state done
unfolding performed after
performed_state first zero = refl
performed_state first (suc done) = ap next (performed_state first done)

-- Part of the public promise. Runs that are reported: a number of orders of a debugger, and what is
-- written of them.
use Rattle.std.specs.Prelude.{ℕ, zero, suc, ◌++◌, List, [], Option}
use Rattle.lgp_table.specs.After.{after}
use Rattle.lgp_table.specs.State.{State}
use Rattle.lgp_history.specs.declared.origin.Origin.{Origin}
use Rattle.lgp_trace.specs.Account.{account_of}
use Rattle.lgp_trace.specs.DrumRows.{signs_in_rows, signs_of}
use Rattle.lgp_trace.specs.declared.account.Account.{Account}

-- what is written of the accounts of a given number of orders from a state on, one after another,
-- each with the origin of its order
unfoldable pub reported : (Account → Option Origin → List ℕ) → State → (ℕ → Option Origin) → ℕ
    → List ℕ
reported told s origins zero = []
reported told s origins (suc count) =
    reported told s origins count ++ told (account_of (after s count)) (origins count)

-- the same drawn along the drum
unfoldable pub drawn : State → ℕ → List ℕ
drawn s zero = []
drawn s (suc count) =
    drawn s count ++ signs_in_rows (after s count).clock (signs_of (account_of (after s count)))

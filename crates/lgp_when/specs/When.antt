-- Part of the public promise: conditions on the counter, on words and on what was printed, and
-- which orders meet them.
use Rattle.std.specs.Prelude.{ℕ, zero, suc, ◌+◌, ◌==◌, ◌&&◌, Bool, false, not, if◌then◌else◌, int_lt}
use Rattle.std.specs.Prelude.{List, length, nat_le, count_by}
use Rattle.lgp_word.specs.Word.{signed}
use Rattle.lgp_table.specs.Activity.{next}
use Rattle.lgp_table.specs.After.{after}
use Rattle.lgp_table.specs.State.{State, word_at}
use Rattle.lgp_history.specs.Hits.{changes, goes_at}
use Rattle.lgp_when.specs.declared.condition.Condition.{Condition}
use Rattle.lgp_when.specs.declared.condition.Condition.TheVariants.{At, Equal, Below, Changed, Clock, Printed, Rows}

-- the code of the carriage return; each one that is printed ends a row
abbrev pub return_code : ℕ
return_code = 16

abbrev pub rows_in : List ℕ → ℕ
rows_in printed = count_by (λ code. code == return_code) printed

-- whether a condition holds in a state; a change comes about by an order, and holds in none
abbrev pub holds : State → Condition → Bool
holds s (At address) = goes_at s address
holds s (Equal address word) = word_at s.core address == word
holds s (Below address bound) = int_lt (signed (word_at s.core address)) (signed bound)
holds s (Changed address) = false
holds s (Printed codes) = nat_le codes (length s.printed)
holds s (Rows rows) = nat_le rows (rows_in s.printed)
holds s (Clock time) = nat_le time s.clock

-- whether the order that begins in a state meets a condition: it holds after the order, and not
-- before it; an address is come to also by an order that is there already; and a change is left by
-- the order
abbrev pub meets : State → Condition → Bool
meets s (At address) = goes_at (next s) address
meets s (Changed address) = changes s address
meets s condition = not (holds s condition) && holds (next s) condition

-- how many of a number of orders meet a condition
unfoldable pub times_met : Condition → State → ℕ → ℕ
times_met condition s zero = 0
times_met condition s (suc count) =
    times_met condition s count + (if meets (after s count) condition then 1 else 0)

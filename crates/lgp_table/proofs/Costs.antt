-- No activity takes less than a word time.
use Rattle.std.proofs.Common.{ℕ, ◌<◌, ◌≤◌, Option, Some, None, arith}
use Rattle.lgp_word.specs.declared.order.Op.{Op}
use Rattle.lgp_table.specs.State.{State}
use Rattle.lgp_table.specs.Activity.{BegunOrder, cost, cost_at, seek_time, time_of}
use Rattle.lgp_flexo.specs.Tape.{Tape}
use Rattle.lgp_table.specs.declared.panel.Status.{Status}
use Rattle.lgp_table.specs.declared.panel.Status.TheVariants.{Halted, Going, Executing, Waiting, Reading}

pub seek_time_more : (op : Op) (m clock : ℕ) → 0 < seek_time op m clock
unfolding seek_time
seek_time_more op m clock = grind arith

time_of-more : (order : Option BegunOrder) (status : Status) (tape : Tape) (clock : ℕ) → 1 ≤ time_of order status tape clock
time_of-more None (Halted cause) tape clock = omega arith
time_of-more None Going tape clock = omega arith
time_of-more None Executing tape clock = omega arith
time_of-more None Waiting tape clock = omega arith
time_of-more None Reading tape clock = omega arith
time_of-more (Some order) status tape clock =
    grind (arith, seek_time_more)

pub cost_more : (s : State) → 1 ≤ cost s
unfolding cost_at
cost_more s = time_of-more _ _ _ _

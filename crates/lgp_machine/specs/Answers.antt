-- Part of the public promise. What the machine answers to a press, and when it refuses a word time.
use Rattle.std.specs.Prelude.{◌≡◌, ◌≢◌, ℕ, ◌+◌, ◌^◌, ◌==◌, ◌&&◌, Bool, if◌then◌else◌, nat_lt}
use Rattle.std.specs.Prelude.{length, is_some, Result, Ok, Err, IsTrue}
use Rattle.lgp_table.specs.State.{State}
use Rattle.lgp_table.specs.Activity.{cost, print_of}
use Rattle.lgp_table.specs.Console.{is_live}
use Rattle.lgp_table.specs.Interleaving.{Configuration, is_boundary, latch_limit}
use Rattle.lgp_table.specs.declared.action.Action.{Action}
use Rattle.lgp_machine.specs.declared.fault.Pressed.{Pressed}
use Rattle.lgp_machine.specs.declared.fault.Pressed.TheVariants.{Live, Dead, Kept}
use Rattle.lgp_machine.specs.declared.fault.PressFault.{PressFault}
use Rattle.lgp_machine.specs.declared.fault.PressFault.TheVariants.{Full}
use Rattle.lgp_machine.specs.declared.fault.TurnFault.{TurnFault}
use Rattle.lgp_machine.specs.declared.fault.TurnFault.TheVariants.{ClockEnd, Memory}

-- no word time begins at this clock
abbrev pub clock_end : ℕ
clock_end = 2 ^ 62

-- whether the activity that begins in a state would pass it
abbrev pub passes_clock_end : State → Bool
passes_clock_end s = nat_lt clock_end (s.clock + cost s)

-- the present clock
abbrev pub clock_of : Configuration → ℕ
clock_of now = now.state.clock + now.elapsed

-- whether the next word time prints a code
abbrev pub prints_now : Configuration → Bool
prints_now now = (now.elapsed + 1 == cost now.state) && is_some (print_of now.state.core)

-- the answer to a press
abbrev pub press_outcome : Configuration → Action → Result Pressed PressFault
press_outcome now action =
    if is_boundary now then (if is_live now.state.core.panel action then Ok Live else Ok Dead)
    else (if nat_lt (length now.kept) latch_limit then Ok Kept else Err Full)

-- why a word time may be refused; at the clock's end for no other cause
abbrev pub RefusedFor : TurnFault → Configuration → Type 0
RefusedFor ClockEnd now = clock_of now ≡ clock_end
RefusedFor Memory now = IsTrue (prints_now now) × (clock_of now ≢ clock_end)

-- Part of the public promise: the moments of a session. The lines of its transcript perform orders,
-- which are counted from 0; an order's moment is its beginning.
use Rattle.std.specs.Prelude.{ℕ, ◌+◌, ◌-◌, ◌==◌, ◌||◌, if◌then◌else◌, is_some, nat_lt, Option, Some}
use Rattle.std.specs.Prelude.{None, true, false, List, [], ◌∷◌}
use Rattle.std.specs.Str.Lines.{lines}
use Rattle.lgp_table.specs.State.{State}
use Rattle.lgp_table.specs.After.{after}
use Rattle.lgp_stream.specs.KeptLine.{Kept, kept_of}
use Rattle.lgp_stream.specs.Transcript.{Recorded, after_lines, stand_in, untouched}
use Rattle.lgp_command.specs.Command.{command_of, is_comment}
use Rattle.lgp_command.specs.CommandText.{command_text}
use Rattle.lgp_command.specs.declared.command.Command.{Command}
use Rattle.lgp_command.specs.declared.command.Command.TheVariants as commands
use Rattle.lgp_script.specs.LabState.{LabState, opening_state}
use Rattle.lgp_script.specs.RunPart.{orders_of_run}
use Rattle.lgp_script.specs.Script.{script_language}

-- the command that a line asks for of which this is kept, if it is no line of a source
unfoldable pub command_in : LabState → Kept → Option Command
command_in lab kept =
    if is_some lab.opened || (kept.longer || (kept.blank || is_comment kept.front)) then None
    else command_of kept.front

-- how many orders a command performs; those of the loader are a part of `load`
abbrev pub orders_by : LabState → Option Command → ℕ
orders_by lab (Some (commands.Run limit)) = orders_of_run true limit lab
orders_by lab (Some (commands.Orders limit)) = orders_of_run false limit lab
orders_by lab command = 0

abbrev pub orders_in : LabState → Kept → ℕ
orders_in lab kept = orders_by lab (command_in lab kept)

abbrev pub after_kept : LabState → Kept → LabState
after_kept lab kept = script_language.after lab (stand_in kept)

-- the machine at the moment of an order: all lines before it are done, and of the line that performs
-- it the orders before it
unfoldable pub state_at : LabState → List (List ℕ) → ℕ → State
state_at lab [] order = lab.debugger.state
state_at lab (line ∷ later) order =
    let kept = kept_of line in
    if nat_lt order (orders_in lab kept) then after lab.debugger.state order
    else state_at (after_kept lab kept) later (order - orders_in lab kept)

-- how many orders there are in all
unfoldable pub all_orders : LabState → List (List ℕ) → ℕ
all_orders lab [] = 0
all_orders lab (line ∷ later) =
    let kept = kept_of line in
    orders_in lab kept + all_orders (after_kept lab kept) later

-- the line that asks for some orders, if there are any
abbrev pub first_orders : ℕ → List (List ℕ)
first_orders order = if order == 0 then [] else command_text (commands.Orders order) [] ∷ []

-- the lines that lead to the moment
unfoldable pub lines_to : LabState → List (List ℕ) → ℕ → List (List ℕ)
lines_to lab [] order = []
lines_to lab (line ∷ later) order =
    let kept = kept_of line in
    if nat_lt order (orders_in lab kept) then first_orders order
    else stand_in kept ∷ lines_to (after_kept lab kept) later (order - orders_in lab kept)

-- the session of a transcript as it was at the moment
abbrev pub moment_of : List ℕ → ℕ → Recorded LabState
moment_of transcript order =
    after_lines script_language (untouched opening_state)
    (lines_to opening_state (lines transcript) order)

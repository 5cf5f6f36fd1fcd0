-- Serves proofs only: a line of a session that is taken again.
use Rattle.std.specs.Prelude.{◌≡◌, ℕ, ◌-◌, ◌==◌, Bool, true, false, if◌then◌else◌, min, nat_lt, List, [], ◌∷◌}
use Rattle.lgp_stream.specs.KeptLine.{Kept}
use Rattle.lgp_stream.specs.Transcript.{Recorded, after_lines, stand_in, with_line}
use Rattle.lgp_command.specs.CommandText.{command_text}
use Rattle.lgp_command.specs.declared.command.Command.{Command}
use Rattle.lgp_command.specs.declared.command.Command.TheVariants as commands
use Rattle.lgp_script.specs.LabState.{LabState}
use Rattle.lgp_script.specs.Script.{script_language}
use Rattle.lgp_script.specs.declared.run_part.RunPart.{RunPart}
use Rattle.lgp_moment.specs.Moment.{all_orders, first_orders, lines_to, orders_in}

abbrev pub run_command : Bool → ℕ → Command
run_command true limit = commands.Run limit
run_command false limit = commands.Orders limit

-- with the line that asks for some orders, if there are any
abbrev pub first_line_of : Recorded LabState → ℕ → Recorded LabState
first_line_of recorded orders =
    if orders == 0 then recorded
    else with_line recorded (command_text (commands.Orders orders) [])

-- a line was taken again, or its first orders alone
abbrev pub lines_taken : LabState → Kept → ℕ → List (List ℕ)
lines_taken lab kept left =
    if nat_lt left (orders_in lab kept) then first_orders left else stand_in kept ∷ []

pub record IsTaken (old : Recorded LabState) (kept : Kept) (left : ℕ) (new : Recorded LabState)
    (part : RunPart) : Type 0 where
  pub orders : part.orders ≡ min left (orders_in old.state kept)
  pub goes_on : part.goes_on ≡ nat_lt left (orders_in old.state kept)
  pub after : new ≡ after_lines script_language old (lines_taken old.state kept left)

-- from here the lines that are left lead where all lines led from the beginning, and as many orders
-- are lacking
pub record IsOnWay (first : Recorded LabState) (all : List (List ℕ)) (order : ℕ)
    (now : Recorded LabState) (rest : List (List ℕ)) (left : ℕ) : Type 0 where
  pub leads : after_lines script_language now (lines_to now.state rest left)
      ≡ after_lines script_language first (lines_to first.state all order)
  pub lacking : left - all_orders now.state rest ≡ order - all_orders first.state all

-- Part of the public promise: a line that says a command is answered as the command.
use Rattle.std.specs.Prelude.{◌≡◌, ℕ, List, None}
use Rattle.lgp_command.specs.CommandText.{command_text}
use Rattle.lgp_command.specs.Sayable.{IsSayable}
use Rattle.lgp_command.specs.declared.command.Command.{Command}
use Rattle.lgp_script.specs.LabState.{LabState}
use Rattle.lgp_script.specs.Script.{answer_to, answer_to_line}

-- where no source is open
abbrev pub LinesAreAnswered : Type 0
LinesAreAnswered =
    (lab : LabState) (command : Command) (text : List ℕ) → IsSayable command → lab.opened ≡ None
    → answer_to_line lab (command_text command text) ≡ answer_to lab command text

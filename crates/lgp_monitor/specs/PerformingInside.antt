-- Serves proofs only: a command that was performed, with the line that says it kept.
use Rattle.std.specs.Prelude.{◌≡◌, ℕ, List, [], ◌∷◌}
use Rattle.lgp_stream.specs.Transcript.{Recorded, after_lines}
use Rattle.lgp_command.specs.CommandText.{command_text}
use Rattle.lgp_command.specs.Sayable.{IsSayable}
use Rattle.lgp_command.specs.declared.command.Command.{Command}
use Rattle.lgp_script.specs.LabState.{LabState}
use Rattle.lgp_script.specs.Script.{replied_to, script_language}
use Rattle.lgp_script.specs.declared.reply.Reply.{Reply}

pub record IsPerformed (before now : Recorded LabState) (command : Command) (text : List ℕ)
    (said : Reply) : Type 0
  where
    pub sayable : IsSayable command
    pub replied : said ≡ (replied_to before.state command text).reply
    pub state : now.state ≡ (replied_to before.state command text).after
    pub kept : now ≡ after_lines script_language before (command_text command text ∷ [])

-- Part of the public promise: a command is read back from the line that says it.
use Rattle.std.specs.Prelude.{◌≡◌, ℕ, false, Some, List}
use Rattle.lgp_stream.specs.Transcript.{IsLine}
use Rattle.lgp_stream.specs.LineWords.{has_no_word}
use Rattle.lgp_command.specs.Command.{command_of, is_comment, text_after_word}
use Rattle.lgp_command.specs.CommandText.{command_text}
use Rattle.lgp_command.specs.Sayable.{IsSayable}
use Rattle.lgp_command.specs.declared.command.Command.{Command}
use Rattle.lgp_command.specs.declared.command.Command.TheVariants as commands

-- the command is read back
abbrev pub AreReadBack : Type 0
AreReadBack =
    (command : Command) (text : List ℕ) → IsSayable command
    → command_of (command_text command text) ≡ Some command

-- the text is read back
pub record TextsAreReadBack : Type 0 where
  pub mounted :
      (text : List ℕ) → text_after_word (command_text commands.Mount text) ≡ text
  pub typed :
      (text : List ℕ) → text_after_word (command_text commands.Type text) ≡ text

-- the line is neither blank nor a comment
pub record AreSaid : Type 0 where
  pub words : (command : Command) (text : List ℕ) → has_no_word (command_text command text) ≡ false
  pub no_comments :
      (command : Command) (text : List ℕ) → is_comment (command_text command text) ≡ false

-- it is one line, where the text is
abbrev pub AreOneLine : Type 0
AreOneLine =
    (command : Command) (text : List ℕ) → IsLine text → IsLine (command_text command text)

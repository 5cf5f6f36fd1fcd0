-- Part of the public promise: the commands that a line can say.
use Rattle.std.specs.Prelude.{IsTrue}
use Rattle.lgp_word.specs.Address.{IsAddress}
use Rattle.lgp_word.specs.Word.{IsWord}
use Rattle.lgp_command.specs.Operands.{IsCount, IsRange, is_button}
use Rattle.lgp_command.specs.declared.command.Command.{Command}
use Rattle.lgp_command.specs.declared.command.Command.TheVariants as commands

-- a line can say the command
abbrev pub IsSayable : Command → Type 0
IsSayable (commands.Put address word) = IsAddress address × IsWord word
IsSayable (commands.Press action) = IsTrue (is_button action)
IsSayable (commands.Turn times) = IsCount times
IsSayable (commands.Orders limit) = IsCount limit
IsSayable (commands.Words range) = IsRange range
IsSayable (commands.Show range) = IsRange range
IsSayable (commands.Break address) = IsAddress address
IsSayable (commands.Watch address) = IsAddress address
IsSayable (commands.Drop number) = IsCount number
IsSayable (commands.Run limit) = IsCount limit
IsSayable (commands.Back orders) = IsCount orders
IsSayable command = Unit {0}

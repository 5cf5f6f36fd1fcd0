-- Part of the public promise: a command as a line of a script, in one form.
use Rattle.std.specs.Prelude.{ℕ, Bool, true, false, ◌++◌, List, [], codes, decimal}
use Rattle.lgp_word.specs.Digits.{address_digits, digits_of}
use Rattle.lgp_table.specs.declared.action.Action.{Action}
use Rattle.lgp_table.specs.declared.action.Action.TheVariants as actions
use Rattle.lgp_table.specs.declared.panel.Mode.TheVariants.{Normal, OneOperation, Manual}
use Rattle.lgp_table.specs.declared.panel.Which.TheVariants.{B32, B16, B8, B4}
use Rattle.lgp_command.specs.Span.{WordRange}
use Rattle.lgp_command.specs.declared.command.Command.{Command}
use Rattle.lgp_command.specs.declared.command.Command.TheVariants as commands

-- the name of a button or a switch; a key has none
unfoldable pub action_name : Action → List ℕ
action_name (actions.Mode Normal) = codes "normal"
action_name (actions.Mode OneOperation) = codes "oneop"
action_name (actions.Mode Manual) = codes "manual"
action_name actions.Start = codes "start"
action_name actions.ClearCounter = codes "clear"
action_name actions.Fill = codes "fill"
action_name actions.Execute = codes "execute"
action_name actions.StartCompute = codes "compute"
action_name actions.StartRead = codes "read"
action_name (actions.BreakPoint B32 down) = codes "bp32"
action_name (actions.BreakPoint B16 down) = codes "bp16"
action_name (actions.BreakPoint B8 down) = codes "bp8"
action_name (actions.BreakPoint B4 down) = codes "bp4"
action_name (actions.Transfer down) = codes "transfer"
action_name (actions.SixBit down) = codes "sixbit"
action_name (actions.Key code) = []

-- the position of a switch; a button has none
abbrev pub position_text : Bool → List ℕ
position_text true = codes " down"
position_text false = codes " up"

unfoldable pub action_position : Action → List ℕ
action_position (actions.BreakPoint which down) = position_text down
action_position (actions.Transfer down) = position_text down
action_position (actions.SixBit down) = position_text down
action_position action = []

-- the address of the first word, and how many there are
abbrev pub range_text : WordRange → List ℕ
range_text range = address_digits range.first ++ (codes " " ++ decimal range.count)

-- the command's name and its operands, each after one space; the text is that of mount and type
unfoldable pub command_text : Command → List ℕ → List ℕ
command_text (commands.Put address word) text =
    codes "put " ++ (address_digits address ++ (codes " " ++ digits_of word))
command_text commands.Mount text = codes "mount " ++ text
command_text (commands.Press action) text =
    codes "press " ++ (action_name action ++ action_position action)
command_text commands.Type text = codes "type " ++ text
command_text (commands.Turn times) text = codes "turn " ++ decimal times
command_text (commands.Orders limit) text = codes "orders " ++ decimal limit
command_text commands.Panel text = codes "panel"
command_text (commands.Words range) text = codes "words " ++ range_text range
command_text (commands.Show range) text = codes "show " ++ range_text range
command_text commands.Printed text = codes "printed"
command_text commands.Dump text = codes "dump"
command_text commands.Source text = codes "source"
command_text commands.List text = codes "list"
command_text commands.Load text = codes "load"
command_text (commands.Break address) text = codes "break " ++ address_digits address
command_text (commands.Watch address) text = codes "watch " ++ address_digits address
command_text (commands.Drop number) text = codes "drop " ++ decimal number
command_text (commands.Run limit) text = codes "run " ++ decimal limit
command_text (commands.Back orders) text = codes "back " ++ decimal orders
command_text commands.Last text = codes "last"

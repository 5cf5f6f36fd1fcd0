-- Part of the public promise: what a line of a script asks for.
use Rattle.std.specs.Prelude.{ℕ, ◌==◌, Bool, if◌then◌else◌, Option, Some, None, option_map, List}
use Rattle.std.specs.Prelude.{drop, slice_index}
use Rattle.std.specs.Str.{byte}
use Rattle.std.specs.Option.{option_and_then, option_zip}
use Rattle.lgp_word.specs.Decimal.{decimal_number}
use Rattle.lgp_word.specs.Digits.{address_text, word_of_digits}
use Rattle.lgp_command.specs.Limits.{digit_limit}
use Rattle.lgp_stream.specs.LineWords.{after_word, first_word, has_no_word}
use Rattle.lgp_text.specs.NamedValues.{named}
use Rattle.lgp_command.specs.Names.{button_names, position_names, switch_names, verb_names}
use Rattle.lgp_command.specs.Span.{WordRange, range_of}
use Rattle.lgp_command.specs.declared.command.Command.{Command}
use Rattle.lgp_command.specs.declared.command.Command.TheVariants as commands
use Rattle.lgp_command.specs.declared.names.Verb.{Verb}
use Rattle.lgp_command.specs.declared.names.Verb.TheVariants as verbs
use Rattle.lgp_command.specs.declared.names.Switch.{Switch}
use Rattle.lgp_command.specs.declared.names.Switch.TheVariants as switches
use Rattle.lgp_table.specs.declared.action.Action.{Action}
use Rattle.lgp_table.specs.declared.action.Action.TheVariants as actions

-- a number: 1 to 10 decimal digits
unfoldable pub number_at : List ℕ → Option ℕ
number_at text = decimal_number digit_limit text

-- the action that sets a switch; true is down
abbrev pub switch_action : Bool → Switch → Action
switch_action down (switches.BreakPoint which) = actions.BreakPoint which down
switch_action down switches.Transfer = actions.Transfer down
switch_action down switches.SixBit = actions.SixBit down

-- ---- the operands of each command

-- what the only operand stands for, as it is read
abbrev pub lone_operand : {T : Type 0} → (List ℕ → Option T) → List ℕ → Option T
lone_operand read operands =
    if has_no_word (after_word operands) then read (first_word operands) else None

-- what two operands stand for, as they are read, where there is no third one
abbrev pub operand_pair : {S T : Type 0} → (List ℕ → Option S) → (List ℕ → Option T) → List ℕ
    → Option (S × T)
operand_pair read_first read_second operands =
    if has_no_word (after_word (after_word operands))
    then option_zip (read_first (first_word operands))
    (read_second (first_word (after_word operands))) else None

unfoldable pub put_command : List ℕ → Option Command
put_command operands =
    option_map (λ pair. commands.Put pair.0 pair.1)
    (operand_pair address_text word_of_digits operands)

unfoldable pub press_command : List ℕ → Option Command
press_command operands =
    if has_no_word (after_word operands)
    then option_map commands.Press (named button_names (first_word operands))
    else option_map (λ pair. commands.Press (switch_action pair.1 pair.0))
    (operand_pair (named switch_names) (named position_names) operands)

unfoldable pub lone_number : List ℕ → Option ℕ
lone_number operands = lone_operand number_at operands

-- the range of words that an address and a number ask for
unfoldable pub span_at : List ℕ → Option WordRange
span_at operands =
    option_and_then (λ pair. range_of pair.0 pair.1)
    (operand_pair address_text number_at operands)

-- a command that takes no operand
abbrev pub lone : Command → List ℕ → Option Command
lone command operands = if has_no_word operands then Some command else None

-- a command with its operands
abbrev pub command_by : Verb → List ℕ → Option Command
command_by verbs.Put operands = put_command operands
command_by verbs.Mount operands = Some commands.Mount
command_by verbs.Press operands = press_command operands
command_by verbs.Type operands = Some commands.Type
command_by verbs.Turn operands = option_map commands.Turn (lone_number operands)
command_by verbs.Orders operands = option_map commands.Orders (lone_number operands)
command_by verbs.Panel operands = lone commands.Panel operands
command_by verbs.Words operands = option_map commands.Words (span_at operands)
command_by verbs.Show operands = option_map commands.Show (span_at operands)
command_by verbs.Printed operands = lone commands.Printed operands
command_by verbs.Dump operands = lone commands.Dump operands
command_by verbs.Source operands = lone commands.Source operands
command_by verbs.List operands = lone commands.List operands
command_by verbs.Load operands = lone commands.Load operands
command_by verbs.Break operands = option_map commands.Break (lone_operand address_text operands)
command_by verbs.Watch operands = option_map commands.Watch (lone_operand address_text operands)
command_by verbs.Drop operands = option_map commands.Drop (lone_number operands)
command_by verbs.Run operands = option_map commands.Run (lone_number operands)
command_by verbs.Back operands = option_map commands.Back (lone_number operands)
command_by verbs.Last operands = lone commands.Last operands

-- what a line asks for; None where it is in no command's form
unfoldable pub command_of : List ℕ → Option Command
command_of line =
    option_and_then (λ verb. command_by verb (after_word line))
    (named verb_names (first_word line))

-- a line that begins with a semicolon
abbrev pub is_comment : List ℕ → Bool
is_comment line = slice_index line 0 == byte ";"

-- the text that mount and type take: all that follows the one space after the command's word
unfoldable pub text_after_word : List ℕ → List ℕ
text_after_word line = drop 1 (after_word line)

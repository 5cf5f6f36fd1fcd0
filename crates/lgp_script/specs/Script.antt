-- Part of the public promise: the script language. A script is its lines, each of which has at most
-- one reply, and a script's text is its replies one after another, from a machine in its opening
-- state on.
use Rattle.std.specs.Prelude.{ℕ, ◌||◌, Bool, true, false, if◌then◌else◌, nat_lt, Option, Some}
use Rattle.std.specs.Prelude.{None, List, [], Result, length}
use Rattle.std.specs.List.{concat}
use Rattle.std.specs.Option.{option_map_or}
use Rattle.lgp_command.specs.Command.{command_of, is_comment, text_after_word}
use Rattle.lgp_flexo.specs.TapeText.{codes_of_text}
use Rattle.lgp_history.specs.Step.{Put}
use Rattle.lgp_history.specs.declared.rule.Rule.TheVariants.{At, Changed}
use Rattle.lgp_script.specs.HistoryCommands.{replied_to_back, replied_to_drop, replied_to_last}
use Rattle.lgp_script.specs.HistoryCommands.{replied_to_rule, replied_to_run}
use Rattle.lgp_stream.specs.Language.{Language, question_count, text_replies}
use Rattle.lgp_stream.specs.KeptLine.{line_limit}
use Rattle.lgp_stream.specs.LineWords.{has_no_word}
use Rattle.lgp_script.specs.LoadCommand.{replied_to_load}
use Rattle.lgp_script.specs.MachineCommands.{replied_to_keys, replied_to_orders, replied_to_press}
use Rattle.lgp_script.specs.MachineCommands.{replied_to_turn}
use Rattle.lgp_script.specs.SourceCommands.{answer_in_source, closed, replied_to_list}
use Rattle.lgp_script.specs.SourceText.{source_of}
use Rattle.lgp_script.specs.LabState.{Answer, LabState, opening_state, refused, silent}
use Rattle.lgp_script.specs.Reply.{Replied, refusing, replied_to_step, replying}
use Rattle.lgp_script.specs.ReplyText.{written}
use Rattle.lgp_script.specs.TapeCommands.{replied_to_tape}
use Rattle.lgp_command.specs.declared.command.Command.{Command}
use Rattle.lgp_command.specs.declared.command.Command.TheVariants as commands
use Rattle.lgp_script.specs.declared.refusal.Refusal.TheVariants.{Form, TooLong}
use Rattle.lgp_script.specs.declared.reply.Reply.TheVariants as replies

-- a line without a reply: there is no word on it, or it begins with a semicolon
abbrev pub is_passed_over : List ℕ → Bool
is_passed_over line = has_no_word line || is_comment line

-- the commands that only ask
abbrev pub only_asks : Option Command → Bool
only_asks (Some commands.Panel) = true
only_asks (Some (commands.Words range)) = true
only_asks (Some (commands.Show range)) = true
only_asks (Some commands.Printed) = true
only_asks (Some commands.Dump) = true
only_asks (Some commands.List) = true
only_asks _ = false

-- the command after which lines are a source's
abbrev pub opens_source : Command → Bool
opens_source commands.Source = true
opens_source command = false

-- the text that mount and type take, which has to fit on a line with its command
abbrev pub replied_to_text : ℕ → (LabState → Result (List ℕ) ℕ → Replied) → LabState → List ℕ
    → Replied
replied_to_text most replied lab text =
    if nat_lt most (length text) then refusing TooLong lab else replied lab (codes_of_text text)

-- what a command is replied; the text is that of mount and type
abbrev pub replied_to : LabState → Command → List ℕ → Replied
replied_to lab (commands.Put address word) text =
    replied_to_step replies.Done lab (Put address word)
replied_to lab commands.Mount text = replied_to_text 4090 replied_to_tape lab text
replied_to lab (commands.Press action) text = replied_to_press lab action
replied_to lab commands.Type text = replied_to_text 4091 replied_to_keys lab text
replied_to lab (commands.Turn times) text = replied_to_turn lab times
replied_to lab (commands.Orders limit) text = replied_to_orders lab limit
replied_to lab commands.Panel text = replying replies.Panel lab
replied_to lab (commands.Words range) text = replying (replies.Words range) lab
replied_to lab (commands.Show range) text = replying (replies.Show range) lab
replied_to lab commands.Printed text = replying replies.Printed lab
replied_to lab commands.Dump text = replying replies.Dump lab
replied_to lab commands.Source text =
    replying replies.Opened (record lab { opened = Some (source_of []) })
replied_to lab commands.List text = replied_to_list lab
replied_to lab commands.Load text = replied_to_load lab
replied_to lab (commands.Break address) text = replied_to_rule lab (At address)
replied_to lab (commands.Watch address) text = replied_to_rule lab (Changed address)
replied_to lab (commands.Drop number) text = replied_to_drop lab number
replied_to lab (commands.Run limit) text = replied_to_run lab limit
replied_to lab (commands.Back orders) text = replied_to_back lab orders
replied_to lab commands.Last text = replied_to_last lab

-- the answer to a command, its reply as it is written
abbrev pub answer_to : LabState → Command → List ℕ → Answer
answer_to lab command text = written (replied_to lab command text)

abbrev pub answer_by : LabState → Option Command → List ℕ → Answer
answer_by lab None text = refused Form lab
answer_by lab (Some command) text = answer_to lab command text

-- the answer to a line outside a source
unfoldable pub answer_to_command : LabState → List ℕ → Answer
answer_to_command lab line =
    if is_passed_over line then silent lab
    else (if nat_lt line_limit (length line) then refused TooLong lab
    else answer_by lab (command_of line) (text_after_word line))

-- the answer to a line; in an open source each line is the source's
unfoldable pub answer_to_line : LabState → List ℕ → Answer
answer_to_line lab line =
    option_map_or (λ source. answer_in_source lab source line) lab.opened
    (answer_to_command lab line)

-- the language of scripts; a script's end closes an open source
abbrev pub script_language : Language LabState
script_language = record {
  reply = λ lab line. (answer_to_line lab line).reply;
  after = λ lab line. (answer_to_line lab line).after;
  closing = λ lab. (closed lab).reply;
}

-- the replies to a script, its text, and how many of them begin with a question mark, as far as 64
-- bits count
unfoldable pub script_replies : List ℕ → List (List ℕ)
script_replies script = text_replies script_language opening_state script

abbrev pub script_text : List ℕ → List ℕ
script_text script = concat (script_replies script)

abbrev pub script_faults : List ℕ → ℕ
script_faults script = question_count (script_replies script)

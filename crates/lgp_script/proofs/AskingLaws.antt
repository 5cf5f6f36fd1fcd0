-- What lines that only ask leave.
use Rattle.std.proofs.Common.{◌≡◌, ◌∙◌, ap, Bool, true, false, if◌then◌else◌, ℕ, List, Option, Some, None, IsTrue, is_some, length, nat_lt, refl, sym}
use Rattle.std.proofs.lemmas.Bool.{true≢false}
use Rattle.std.specs.Option.{option_map_or}
use Rattle.lgp_stream.specs.KeptLine.{line_limit}
use Rattle.lgp_command.specs.Command.{command_of, text_after_word}
use Rattle.lgp_command.specs.declared.command.Command.{Command}
use Rattle.lgp_command.specs.declared.command.Command.TheVariants as commands
use Rattle.lgp_script.specs.declared.refusal.Refusal.TheVariants.{NoImage, TooLong}
use Rattle.lgp_script.specs.declared.reply.Reply.TheVariants as replies
use Rattle.lgp_script.specs.Reply.{refusing, replying}
use Rattle.lgp_script.specs.Script.{answer_by, answer_to_command, answer_to_line, is_passed_over, only_asks, script_language}
use Rattle.lgp_script.specs.SourceCommands.{answer_in_source}
use Rattle.lgp_script.specs.SourceText.{SourceText}
use Rattle.lgp_script.specs.LabState.{Answer, LabState, refused, silent}

list_leaves : (lab : LabState) (some : Bool) → (if some then replying replies.List lab else refusing NoImage lab).after ≡ lab
list_leaves lab true = refl
list_leaves lab false = refl

unmoved_by : (lab : LabState) (command : Option Command) (text : List ℕ) → IsTrue (only_asks command)
    → (answer_by lab command text).after ≡ lab
unmoved_by lab (Some commands.Panel) text asks = refl
unmoved_by lab (Some (commands.Words range)) text asks = refl
unmoved_by lab (Some (commands.Show range)) text asks = refl
unmoved_by lab (Some commands.Printed) text asks = refl
unmoved_by lab (Some commands.Dump) text asks = refl
unmoved_by lab (Some commands.List) text asks = list_leaves lab (is_some lab.source)
unmoved_by lab (Some (commands.Put address word)) text asks = absurd (true≢false (sym asks))
unmoved_by lab (Some commands.Mount) text asks = absurd (true≢false (sym asks))
unmoved_by lab (Some (commands.Press action)) text asks = absurd (true≢false (sym asks))
unmoved_by lab (Some commands.Type) text asks = absurd (true≢false (sym asks))
unmoved_by lab (Some (commands.Turn times)) text asks = absurd (true≢false (sym asks))
unmoved_by lab (Some (commands.Orders limit)) text asks = absurd (true≢false (sym asks))
unmoved_by lab (Some commands.Source) text asks = absurd (true≢false (sym asks))
unmoved_by lab (Some commands.Load) text asks = absurd (true≢false (sym asks))
unmoved_by lab (Some (commands.Break address)) text asks = absurd (true≢false (sym asks))
unmoved_by lab (Some (commands.Watch address)) text asks = absurd (true≢false (sym asks))
unmoved_by lab (Some (commands.Drop number)) text asks = absurd (true≢false (sym asks))
unmoved_by lab (Some (commands.Run limit)) text asks = absurd (true≢false (sym asks))
unmoved_by lab (Some (commands.Back orders)) text asks = absurd (true≢false (sym asks))
unmoved_by lab (Some commands.Last) text asks = absurd (true≢false (sym asks))
unmoved_by lab None text asks = absurd (true≢false (sym asks))

either_leaves : (lab : LabState) (holds : Bool) (one other : Answer) → one.after ≡ lab → other.after ≡ lab
    → (if holds then one else other).after ≡ lab
either_leaves lab true one other first second = first
either_leaves lab false one other first second = second

pub unmoved : (lab : LabState) (line : List ℕ) → lab.opened ≡ None → IsTrue (only_asks (command_of line))
    → script_language.after lab line ≡ lab
unfolding answer_to_line answer_to_command
unmoved lab line outside asks =
    ap (λ (opened : Option SourceText). (option_map_or (λ source. answer_in_source lab source line) opened (answer_to_command lab line)).after) outside
    ∙ either_leaves lab (is_passed_over line) (silent lab)
    (if nat_lt line_limit (length line) then refused TooLong lab else answer_by lab (command_of line) (text_after_word line)) refl
    (either_leaves lab (nat_lt line_limit (length line)) (refused TooLong lab) (answer_by lab (command_of line) (text_after_word line)) refl
    (unmoved_by lab (command_of line) (text_after_word line) asks))

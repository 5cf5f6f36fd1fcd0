-- A line that says a command is answered as the command.
use Rattle.std.proofs.Common.{◌≡◌, ◌∙◌, ap, ℕ, ◌+◌, ◌≤◌, Bool, true, false, if◌then◌else◌, List, ◌++◌, Some, Result, codes, decimal, length, nat_lt, refl, arith, length-append}
use Rattle.std.proofs.lemmas.Bool.Decides.{nat_tests}
use Rattle.std.proofs.lemmas.Fmt.{length-decimal-le}
use Rattle.lgp_word.specs.Digits.{address_digits, digits_of, four_digits}
use Rattle.lgp_stream.specs.KeptLine.{line_limit}
use Rattle.lgp_stream.specs.LineWords.{has_no_word}
use Rattle.lgp_flexo.specs.TapeText.{codes_of_text}
use Rattle.lgp_table.specs.declared.action.Action.{Action}
use Rattle.lgp_table.specs.declared.action.Action.TheVariants as actions
use Rattle.lgp_table.specs.declared.panel.Mode.TheVariants.{Normal, OneOperation, Manual}
use Rattle.lgp_table.specs.declared.panel.Which.TheVariants.{B32, B16, B8, B4}
use Rattle.lgp_command.specs.Command.{command_of, is_comment, text_after_word}
use Rattle.lgp_command.specs.CommandText.{action_name, action_position, command_text, position_text, range_text}
use Rattle.lgp_command.specs.Operands.{IsCount, IsRange}
use Rattle.lgp_command.specs.Sayable.{IsSayable}
use Rattle.lgp_command.specs.Span.{WordRange}
use Rattle.lgp_command.specs.declared.command.Command.{Command}
use Rattle.lgp_command.specs.declared.command.Command.TheVariants as commands
use Rattle.lgp_command.proofs.CommandLines.{read_command, read_texts, said}
use Rattle.lgp_script.specs.CommandLaws.{LinesAreAnswered}
use Rattle.lgp_script.specs.LabState.{Answer, LabState, refused}
use Rattle.lgp_script.specs.MachineCommands.{replied_to_keys}
use Rattle.lgp_script.specs.Reply.{Replied, refusing}
use Rattle.lgp_script.specs.ReplyText.{reply_text, written}
use Rattle.lgp_script.specs.Script.{answer_to, answer_to_command, replied_to_text}
use Rattle.lgp_script.specs.TapeCommands.{replied_to_tape}
use Rattle.lgp_script.specs.declared.refusal.Refusal.TheVariants.{TooLong}
use Rattle.lgp_script.proofs.KeptLemmas.{line_outside}

-- a line that is neither blank nor a comment, and asks for a command
by_command : (lab : LabState) (line : List ℕ) (command : Command) → has_no_word line ≡ false → is_comment line ≡ false → command_of line ≡ Some command
    → answer_to_command lab line ≡ (if nat_lt line_limit (length line) then refused TooLong lab else answer_to lab command (text_after_word line))
unfolding answer_to_command
by_command lab line command words comment is = rw (words, comment, is) refl

-- ---- how long the lines are

short_number : (number : ℕ) → IsCount number → length (decimal number) ≤ 10
short_number number small = length-decimal-le 10 number (omega arith) small (omega arith)

short_name : (action : Action) → length (action_name action) ≤ 8
unfolding action_name
short_name (actions.Mode Normal) = omega arith
short_name (actions.Mode OneOperation) = omega arith
short_name (actions.Mode Manual) = omega arith
short_name actions.Start = omega arith
short_name actions.ClearCounter = omega arith
short_name actions.Fill = omega arith
short_name actions.Execute = omega arith
short_name (actions.Key code) = omega arith
short_name actions.StartCompute = omega arith
short_name actions.StartRead = omega arith
short_name (actions.BreakPoint B32 down) = omega arith
short_name (actions.BreakPoint B16 down) = omega arith
short_name (actions.BreakPoint B8 down) = omega arith
short_name (actions.BreakPoint B4 down) = omega arith
short_name (actions.Transfer down) = omega arith
short_name (actions.SixBit down) = omega arith

short_position_text : (down : Bool) → length (position_text down) ≤ 5
short_position_text true = omega arith
short_position_text false = omega arith

short_position : (action : Action) → length (action_position action) ≤ 5
unfolding action_position
short_position (actions.Mode mode) = omega arith
short_position actions.Start = omega arith
short_position actions.ClearCounter = omega arith
short_position actions.Fill = omega arith
short_position actions.Execute = omega arith
short_position (actions.Key code) = omega arith
short_position actions.StartCompute = omega arith
short_position actions.StartRead = omega arith
short_position (actions.BreakPoint which down) = short_position_text down
short_position (actions.Transfer down) = short_position_text down
short_position (actions.SixBit down) = short_position_text down

short_press : (action : Action) → length (codes "press " ++ (action_name action ++ action_position action)) ≤ line_limit
short_press action =
    let joined = length-append (action_name action) (action_position action) in
    omega (arith, joined, short_name action, short_position action)

short_range : (range : WordRange) → IsRange range → length (range_text range) ≤ 15
short_range range is =
    let number = short_number range.count (omega (arith, is.few)) in
    omega (arith, number)

short_word : (word : ℕ) → length (digits_of word) ≡ 8
unfolding digits_of four_digits
short_word word = refl

-- ---- answers

-- a line that is not too long
within : (line : List ℕ) (long short : Answer) → length line ≤ line_limit → (if nat_lt line_limit (length line) then long else short) ≡ short
within line long short few =
    let fits : nat_lt line_limit (length line) ≡ false = grind (arith, nat_tests) in
    rw fits refl

-- a text that is too long for its line is refused as the line
long_text : (lab : LabState) (long : Bool) (taken : Replied)
    → (if long then refused TooLong lab else written (if long then refusing TooLong lab else taken)) ≡ written (if long then refusing TooLong lab else taken)
unfolding reply_text
long_text lab true taken = refl
long_text lab false taken = refl

text_line : (lab : LabState) (front text : List ℕ) (most : ℕ) (replied : LabState → Result (List ℕ) ℕ → Replied) → length front + most ≡ line_limit
    → (if nat_lt line_limit (length (front ++ text)) then refused TooLong lab else written (replied_to_text most replied lab text))
    ≡ written (replied_to_text most replied lab text)
text_line lab front text most replied fills =
    let same : nat_lt line_limit (length (front ++ text)) ≡ nat_lt most (length text) = simp length-append (grind (arith, nat_tests)) in
    ap (λ (long : Bool). if long then refused TooLong lab else written (replied_to_text most replied lab text)) same
    ∙ long_text lab (nat_lt most (length text)) (replied lab (codes_of_text text))

same_text : (lab : LabState) (command : Command) (line read text : List ℕ) → read ≡ text
    → (if nat_lt line_limit (length line) then refused TooLong lab else answer_to lab command text) ≡ answer_to lab command text
    → (if nat_lt line_limit (length line) then refused TooLong lab else answer_to lab command read) ≡ answer_to lab command text
same_text lab command line read text same fits = rw same fits

answered : (lab : LabState) (command : Command) (text : List ℕ) → IsSayable command
    → (if nat_lt line_limit (length (command_text command text)) then refused TooLong lab
    else answer_to lab command (text_after_word (command_text command text))) ≡ answer_to lab command text
unfolding command_text
answered lab (commands.Put address word) text is = within (codes "put " ++ (address_digits address ++ (codes " " ++ digits_of word))) _ _ (let word_is = short_word word in omega (arith, word_is))
answered lab commands.Mount text is =
    same_text lab commands.Mount (codes "mount " ++ text) (text_after_word (codes "mount " ++ text)) text (read_texts.mounted text) (text_line lab (codes "mount ") text 4090 replied_to_tape refl)
answered lab (commands.Press action) text is = within (codes "press " ++ (action_name action ++ action_position action)) _ _ (short_press action)
answered lab commands.Type text is =
    same_text lab commands.Type (codes "type " ++ text) (text_after_word (codes "type " ++ text)) text (read_texts.typed text) (text_line lab (codes "type ") text 4091 replied_to_keys refl)
answered lab (commands.Turn times) text is = within (codes "turn " ++ decimal times) _ _ (let number_is = short_number times is in omega (arith, number_is))
answered lab (commands.Orders limit) text is = within (codes "orders " ++ decimal limit) _ _ (let number_is = short_number limit is in omega (arith, number_is))
answered lab commands.Panel text is = refl
answered lab (commands.Words range) text is = within (codes "words " ++ range_text range) _ _ (let range_is = short_range range is in omega (arith, range_is))
answered lab (commands.Show range) text is = within (codes "show " ++ range_text range) _ _ (let range_is = short_range range is in omega (arith, range_is))
answered lab commands.Printed text is = refl
answered lab commands.Dump text is = refl
answered lab commands.Source text is = refl
answered lab commands.List text is = refl
answered lab commands.Load text is = refl
answered lab (commands.Break address) text is = refl
answered lab (commands.Watch address) text is = refl
answered lab (commands.Drop number) text is = within (codes "drop " ++ decimal number) _ _ (let number_is = short_number number is in omega (arith, number_is))
answered lab (commands.Run limit) text is = within (codes "run " ++ decimal limit) _ _ (let number_is = short_number limit is in omega (arith, number_is))
answered lab (commands.Back orders) text is = within (codes "back " ++ decimal orders) _ _ (let number_is = short_number orders is in omega (arith, number_is))
answered lab commands.Last text is = refl

pub lines_answered : LinesAreAnswered
lines_answered lab command text is outside =
    let line : List ℕ = command_text command text in
    line_outside lab line outside
    ∙ (by_command lab line command (said.words command text) (said.no_comments command text) (read_command command text is)
    ∙ answered lab command text is)

-- Commands are read back from the lines that say them.
use Rattle.std.proofs.Common.{◌≡◌, ℕ, zero, suc, ◌+◌, ◌/◌, ◌%◌, ◌^◌, ◌<◌, Bool, true, false, Some, option_map, IsTrue, List, [], ◌∷◌, ◌++◌, codes, decimal, get_or, refl, ap, ◌∙◌, arith}
use Rattle.std.proofs.lemmas.Bool.Decides.{nat_tests}
use Rattle.lgp_word.specs.Address.{IsAddress}
use Rattle.lgp_word.specs.Word.{IsWord}
use Rattle.lgp_word.specs.Digits.{address_digits, address_text, digit_byte, digits, digits_of, four_digits, word_of_digits}
use Rattle.lgp_word.proofs.DigitLemmas.{word_of_digits-digits_of}
use Rattle.lgp_word.proofs.TextLemmas.{address_text-address_digits}
use Rattle.lgp_table.specs.declared.action.Action.{Action}
use Rattle.lgp_table.specs.declared.action.Action.TheVariants as actions
use Rattle.lgp_table.specs.declared.panel.Mode.TheVariants.{Normal, OneOperation, Manual}
use Rattle.lgp_table.specs.declared.panel.Which.TheVariants.{B32, B16, B8, B4}
use Rattle.lgp_stream.specs.Language.{is_line_feed}
use Rattle.lgp_stream.specs.LineWords.{after_word, first_word, has_no_word, is_space, without_spaces}
use Rattle.lgp_stream.specs.Transcript.{IsLine}
use Rattle.lgp_command.specs.Command.{command_of, is_comment, lone_number, lone_operand, number_at, press_command, put_command, span_at, text_after_word}
use Rattle.lgp_command.specs.CommandText.{action_name, action_position, command_text, position_text, range_text}
use Rattle.lgp_command.specs.ReadBack.{AreOneLine, AreReadBack, AreSaid, TextsAreReadBack}
use Rattle.lgp_command.specs.Operands.{IsCount, IsRange, is_button}
use Rattle.lgp_command.specs.Span.{WordRange, range_of}
use Rattle.lgp_command.specs.declared.command.Command.{Command}
use Rattle.lgp_command.specs.declared.command.Command.TheVariants as commands
use Rattle.lgp_command.proofs.Decimals.{decimal_is_line, decimal_is_word, number_at-decimal}
use Rattle.lgp_command.proofs.Words.{IsVisible, IsWordText, lone_read, pair_read, visible-append}

-- ---- operands

seen_digit : (value : ℕ) → is_space (48 + value) ≡ false
seen_digit value = grind (arith, nat_tests)

address_is_word : (address : ℕ) → IsWordText (address_digits address)
address_is_word address = record { seen = (seen_digit _, (seen_digit _, (seen_digit _, (seen_digit _, tt)))); some = omega arith }

seen_at : (xs : List ℕ) (i : ℕ) → IsVisible xs → is_space (get_or xs i 0) ≡ false
seen_at [] i seen = refl
seen_at (x ∷ xs) zero seen = seen.0
seen_at (x ∷ xs) (suc i) seen = seen_at xs i seen.1

digits_are_seen : IsVisible digits
digits_are_seen = grind arith

seen_byte : (value : ℕ) → is_space (digit_byte value) ≡ false
unfolding digit_byte
seen_byte value = seen_at digits value digits_are_seen

seen_four : (number : ℕ) → IsVisible (four_digits number)
unfolding four_digits
seen_four number = (seen_byte _, (seen_byte _, (seen_byte _, (seen_byte _, tt))))

word_is_word : (word : ℕ) → IsWordText (digits_of word)
unfolding digits_of four_digits
word_is_word word = record { seen = visible-append (four_digits (word / 65536)) (four_digits (word % 65536)) (seen_four _) (seen_four _); some = omega arith }

number_operand : (number : ℕ) → IsCount number → lone_number (32 ∷ decimal number) ≡ Some number
unfolding lone_number
number_operand number small = lone_read number_at (decimal number) (decimal_is_word number small) ∙ number_at-decimal number small

address_operand : (address : ℕ) → IsAddress address → lone_operand address_text (32 ∷ address_digits address) ≡ Some address
address_operand address small =
    lone_read address_text (address_digits address) (address_is_word address) ∙ address_text-address_digits address small

range_operand : (range : WordRange) → IsRange range → span_at (32 ∷ range_text range) ≡ Some range
unfolding span_at range_of
range_operand range is =
    let few : range.count < 10 ^ 10 = omega (arith, is.few) in
    rw (
      pair_read address_text number_at (address_digits range.first) (decimal range.count) (address_is_word range.first) (decimal_is_word range.count few),
      address_text-address_digits range.first is.address,
      number_at-decimal range.count few,
    ) (grind (arith, nat_tests))

put_operands : (address word : ℕ) → IsAddress address → IsWord word → put_command (32 ∷ (address_digits address ++ 32 ∷ digits_of word)) ≡ Some (commands.Put address word)
unfolding put_command
put_operands address word small is =
    rw (
      pair_read address_text word_of_digits (address_digits address) (digits_of word) (address_is_word address) (word_is_word word),
      address_text-address_digits address small,
      word_of_digits-digits_of word is,
    ) refl

press_operands : (action : Action) → IsTrue (is_button action) → press_command (32 ∷ (action_name action ++ action_position action)) ≡ Some (commands.Press action)
unfolding press_command action_name action_position first_word after_word without_spaces has_no_word
press_operands (actions.Mode Normal) is = refl
press_operands (actions.Mode OneOperation) is = refl
press_operands (actions.Mode Manual) is = refl
press_operands actions.Start is = refl
press_operands actions.ClearCounter is = refl
press_operands actions.Fill is = refl
press_operands actions.Execute is = refl
press_operands (actions.Key code) is = absurd (clash is) where
  clash : IsTrue false → ⊥
  clash e = cc
press_operands actions.StartCompute is = refl
press_operands actions.StartRead is = refl
press_operands (actions.BreakPoint B32 true) is = refl
press_operands (actions.BreakPoint B32 false) is = refl
press_operands (actions.BreakPoint B16 true) is = refl
press_operands (actions.BreakPoint B16 false) is = refl
press_operands (actions.BreakPoint B8 true) is = refl
press_operands (actions.BreakPoint B8 false) is = refl
press_operands (actions.BreakPoint B4 true) is = refl
press_operands (actions.BreakPoint B4 false) is = refl
press_operands (actions.Transfer true) is = refl
press_operands (actions.Transfer false) is = refl
press_operands (actions.SixBit true) is = refl
press_operands (actions.SixBit false) is = refl

-- ---- names

put_line : (rest : List ℕ) → command_of (codes "put " ++ rest) ≡ put_command (32 ∷ rest)
unfolding command_of first_word after_word without_spaces
put_line rest = refl

mount_line : (rest : List ℕ) → command_of (codes "mount " ++ rest) ≡ Some commands.Mount
unfolding command_of first_word after_word without_spaces
mount_line rest = refl

press_line : (rest : List ℕ) → command_of (codes "press " ++ rest) ≡ press_command (32 ∷ rest)
unfolding command_of first_word after_word without_spaces
press_line rest = refl

type_line : (rest : List ℕ) → command_of (codes "type " ++ rest) ≡ Some commands.Type
unfolding command_of first_word after_word without_spaces
type_line rest = refl

turn_line : (rest : List ℕ) → command_of (codes "turn " ++ rest) ≡ option_map commands.Turn (lone_number (32 ∷ rest))
unfolding command_of first_word after_word without_spaces
turn_line rest = refl

orders_line : (rest : List ℕ) → command_of (codes "orders " ++ rest) ≡ option_map commands.Orders (lone_number (32 ∷ rest))
unfolding command_of first_word after_word without_spaces
orders_line rest = refl

words_line : (rest : List ℕ) → command_of (codes "words " ++ rest) ≡ option_map commands.Words (span_at (32 ∷ rest))
unfolding command_of first_word after_word without_spaces
words_line rest = refl

show_line : (rest : List ℕ) → command_of (codes "show " ++ rest) ≡ option_map commands.Show (span_at (32 ∷ rest))
unfolding command_of first_word after_word without_spaces
show_line rest = refl

break_line : (rest : List ℕ) → command_of (codes "break " ++ rest) ≡ option_map commands.Break (lone_operand address_text (32 ∷ rest))
unfolding command_of first_word after_word without_spaces
break_line rest = refl

watch_line : (rest : List ℕ) → command_of (codes "watch " ++ rest) ≡ option_map commands.Watch (lone_operand address_text (32 ∷ rest))
unfolding command_of first_word after_word without_spaces
watch_line rest = refl

drop_line : (rest : List ℕ) → command_of (codes "drop " ++ rest) ≡ option_map commands.Drop (lone_number (32 ∷ rest))
unfolding command_of first_word after_word without_spaces
drop_line rest = refl

run_line : (rest : List ℕ) → command_of (codes "run " ++ rest) ≡ option_map commands.Run (lone_number (32 ∷ rest))
unfolding command_of first_word after_word without_spaces
run_line rest = refl

back_line : (rest : List ℕ) → command_of (codes "back " ++ rest) ≡ option_map commands.Back (lone_number (32 ∷ rest))
unfolding command_of first_word after_word without_spaces
back_line rest = refl

-- a command by its name alone
read_panel : command_of (codes "panel") ≡ Some commands.Panel
unfolding command_of first_word after_word without_spaces has_no_word
read_panel = refl

read_printed : command_of (codes "printed") ≡ Some commands.Printed
unfolding command_of first_word after_word without_spaces has_no_word
read_printed = refl

read_dump : command_of (codes "dump") ≡ Some commands.Dump
unfolding command_of first_word after_word without_spaces has_no_word
read_dump = refl

read_source : command_of (codes "source") ≡ Some commands.Source
unfolding command_of first_word after_word without_spaces has_no_word
read_source = refl

read_list : command_of (codes "list") ≡ Some commands.List
unfolding command_of first_word after_word without_spaces has_no_word
read_list = refl

read_load : command_of (codes "load") ≡ Some commands.Load
unfolding command_of first_word after_word without_spaces has_no_word
read_load = refl

read_last : command_of (codes "last") ≡ Some commands.Last
unfolding command_of first_word after_word without_spaces has_no_word
read_last = refl

-- ---- commands

pub read_command : AreReadBack
unfolding command_text
read_command (commands.Put address word) text is = put_line _ ∙ put_operands address word is.0 is.1
read_command commands.Mount text is = mount_line text
read_command (commands.Press action) text is = press_line _ ∙ press_operands action is
read_command commands.Type text is = type_line text
read_command (commands.Turn times) text is = turn_line _ ∙ ap (option_map commands.Turn) (number_operand times is)
read_command (commands.Orders limit) text is = orders_line _ ∙ ap (option_map commands.Orders) (number_operand limit is)
read_command (commands.Words range) text is = words_line _ ∙ ap (option_map commands.Words) (range_operand range is)
read_command (commands.Show range) text is = show_line _ ∙ ap (option_map commands.Show) (range_operand range is)
read_command (commands.Break address) text is = break_line _ ∙ ap (option_map commands.Break) (address_operand address is)
read_command (commands.Watch address) text is = watch_line _ ∙ ap (option_map commands.Watch) (address_operand address is)
read_command (commands.Drop number) text is = drop_line _ ∙ ap (option_map commands.Drop) (number_operand number is)
read_command (commands.Run limit) text is = run_line _ ∙ ap (option_map commands.Run) (number_operand limit is)
read_command (commands.Back orders) text is = back_line _ ∙ ap (option_map commands.Back) (number_operand orders is)
read_command commands.Panel text is = read_panel
read_command commands.Printed text is = read_printed
read_command commands.Dump text is = read_dump
read_command commands.Source text is = read_source
read_command commands.List text is = read_list
read_command commands.Load text is = read_load
read_command commands.Last text is = read_last

pub read_texts : TextsAreReadBack
unfolding command_text text_after_word after_word without_spaces
read_texts = record { mounted = λ text. refl; typed = λ text. refl }

said_words : (command : Command) (text : List ℕ) → has_no_word (command_text command text) ≡ false
unfolding command_text has_no_word
said_words (commands.Put address word) text = refl
said_words commands.Mount text = refl
said_words (commands.Press action) text = refl
said_words commands.Type text = refl
said_words (commands.Turn times) text = refl
said_words (commands.Orders limit) text = refl
said_words commands.Panel text = refl
said_words (commands.Words range) text = refl
said_words (commands.Show range) text = refl
said_words commands.Printed text = refl
said_words commands.Dump text = refl
said_words commands.Source text = refl
said_words commands.List text = refl
said_words commands.Load text = refl
said_words (commands.Break address) text = refl
said_words (commands.Watch address) text = refl
said_words (commands.Drop number) text = refl
said_words (commands.Run limit) text = refl
said_words (commands.Back orders) text = refl
said_words commands.Last text = refl

said_no_comment : (command : Command) (text : List ℕ) → is_comment (command_text command text) ≡ false
unfolding command_text
said_no_comment (commands.Put address word) text = refl
said_no_comment commands.Mount text = refl
said_no_comment (commands.Press action) text = refl
said_no_comment commands.Type text = refl
said_no_comment (commands.Turn times) text = refl
said_no_comment (commands.Orders limit) text = refl
said_no_comment commands.Panel text = refl
said_no_comment (commands.Words range) text = refl
said_no_comment (commands.Show range) text = refl
said_no_comment commands.Printed text = refl
said_no_comment commands.Dump text = refl
said_no_comment commands.Source text = refl
said_no_comment commands.List text = refl
said_no_comment commands.Load text = refl
said_no_comment (commands.Break address) text = refl
said_no_comment (commands.Watch address) text = refl
said_no_comment (commands.Drop number) text = refl
said_no_comment (commands.Run limit) text = refl
said_no_comment (commands.Back orders) text = refl
said_no_comment commands.Last text = refl

pub said : AreSaid
said = record { words = said_words; no_comments = said_no_comment }

-- ---- one line

line-append : (one other : List ℕ) → IsLine one → IsLine other → IsLine (one ++ other)
line-append [] other first second = second
line-append (b ∷ one) other first second = (first.0, line-append one other first.1 second)

line_digit : (value : ℕ) → is_line_feed (48 + value) ≡ false
line_digit value = grind (arith, nat_tests)

line_at : (xs : List ℕ) (i : ℕ) → IsLine xs → is_line_feed (get_or xs i 0) ≡ false
line_at [] i free = refl
line_at (x ∷ xs) zero free = free.0
line_at (x ∷ xs) (suc i) free = line_at xs i free.1

digits_are_line : IsLine digits
digits_are_line = grind arith

line_byte : (value : ℕ) → is_line_feed (digit_byte value) ≡ false
unfolding digit_byte
line_byte value = line_at digits value digits_are_line

line_four : (number : ℕ) → IsLine (four_digits number)
unfolding four_digits
line_four number = (line_byte _, (line_byte _, (line_byte _, (line_byte _, tt))))

line_word : (word : ℕ) → IsLine (digits_of word)
unfolding digits_of
line_word word = line-append (four_digits (word / 65536)) (four_digits (word % 65536)) (line_four _) (line_four _)

line_address : (address : ℕ) → IsLine (address_digits address)
line_address address = (line_digit _, (line_digit _, (line_digit _, (line_digit _, tt))))

line_range : (range : WordRange) → IsLine (range_text range)
line_range range = line-append (address_digits range.first) (32 ∷ decimal range.count) (line_address range.first) (refl, decimal_is_line range.count)

line_name : (action : Action) → IsLine (action_name action)
unfolding action_name
line_name (actions.Mode Normal) = grind arith
line_name (actions.Mode OneOperation) = grind arith
line_name (actions.Mode Manual) = grind arith
line_name actions.Start = grind arith
line_name actions.ClearCounter = grind arith
line_name actions.Fill = grind arith
line_name actions.Execute = grind arith
line_name (actions.Key code) = grind arith
line_name actions.StartCompute = grind arith
line_name actions.StartRead = grind arith
line_name (actions.BreakPoint B32 down) = grind arith
line_name (actions.BreakPoint B16 down) = grind arith
line_name (actions.BreakPoint B8 down) = grind arith
line_name (actions.BreakPoint B4 down) = grind arith
line_name (actions.Transfer down) = grind arith
line_name (actions.SixBit down) = grind arith

line_position_text : (down : Bool) → IsLine (position_text down)
line_position_text true = grind arith
line_position_text false = grind arith

line_position : (action : Action) → IsLine (action_position action)
unfolding action_position
line_position (actions.Mode mode) = tt
line_position actions.Start = tt
line_position actions.ClearCounter = tt
line_position actions.Fill = tt
line_position actions.Execute = tt
line_position (actions.Key code) = tt
line_position actions.StartCompute = tt
line_position actions.StartRead = tt
line_position (actions.BreakPoint which down) = line_position_text down
line_position (actions.Transfer down) = line_position_text down
line_position (actions.SixBit down) = line_position_text down

pub one_line : AreOneLine
unfolding command_text
one_line (commands.Put address word) text free = (refl, (refl, (refl, (refl, line-append (address_digits address) (32 ∷ digits_of word) (line_address address) (refl, line_word word)))))
one_line commands.Mount text free = (refl, (refl, (refl, (refl, (refl, (refl, free))))))
one_line (commands.Press action) text free = (refl, (refl, (refl, (refl, (refl, (refl, line-append (action_name action) (action_position action) (line_name action) (line_position action)))))))
one_line commands.Type text free = (refl, (refl, (refl, (refl, (refl, free)))))
one_line (commands.Turn times) text free = (refl, (refl, (refl, (refl, (refl, decimal_is_line times)))))
one_line (commands.Orders limit) text free = (refl, (refl, (refl, (refl, (refl, (refl, (refl, decimal_is_line limit)))))))
one_line commands.Panel text free = (refl, (refl, (refl, (refl, (refl, tt)))))
one_line (commands.Words range) text free = (refl, (refl, (refl, (refl, (refl, (refl, line_range range))))))
one_line (commands.Show range) text free = (refl, (refl, (refl, (refl, (refl, line_range range)))))
one_line commands.Printed text free = (refl, (refl, (refl, (refl, (refl, (refl, (refl, tt)))))))
one_line commands.Dump text free = (refl, (refl, (refl, (refl, tt))))
one_line commands.Source text free = (refl, (refl, (refl, (refl, (refl, (refl, tt))))))
one_line commands.List text free = (refl, (refl, (refl, (refl, tt))))
one_line commands.Load text free = (refl, (refl, (refl, (refl, tt))))
one_line (commands.Break address) text free = (refl, (refl, (refl, (refl, (refl, (refl, line_address address))))))
one_line (commands.Watch address) text free = (refl, (refl, (refl, (refl, (refl, (refl, line_address address))))))
one_line (commands.Drop number) text free = (refl, (refl, (refl, (refl, (refl, decimal_is_line number)))))
one_line (commands.Run limit) text free = (refl, (refl, (refl, (refl, decimal_is_line limit))))
one_line (commands.Back orders) text free = (refl, (refl, (refl, (refl, (refl, decimal_is_line orders)))))
one_line commands.Last text free = (refl, (refl, (refl, (refl, tt))))

pub ruleset read_back = (read_command, read_texts, said, one_line)

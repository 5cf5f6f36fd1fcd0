-- Part of the public promise: what a typed line asks for.
use Rattle.std.specs.Prelude.{ℕ, ◌||◌, ◌&&◌, Bool, true, false, not, if◌then◌else◌}
use Rattle.std.specs.Prelude.{Option, Some, None, option_and_then, option_map, unwrap_or}
use Rattle.std.specs.Prelude.{Result, Ok, Err, is_some, List, codes, pos, ◌*ℤ◌}
use Rattle.std.specs.Option.{ok_or, option_map_or, option_or}
use Rattle.std.specs.Result.{result_err, result_map_both, result_ok}
use Rattle.std.specs.Str.{bytes_eq}
use Rattle.lgp_word.specs.Digits.{word_of_digits}
use Rattle.lgp_fraction.specs.Arithmetic.{low_bits}
use Rattle.lgp_fraction.specs.Decimal.{decimal_fraction}
use Rattle.lgp_assembler.specs.AddressOperands.{address_operand}
use Rattle.lgp_assembler.specs.Patch.{operation_word}
use Rattle.lgp_stream.specs.KeptLine.{Kept}
use Rattle.lgp_stream.specs.LineWords.{after_word, first_word, has_no_word}
use Rattle.lgp_text.specs.NamedValues.{named}
use Rattle.lgp_command.specs.Command.{command_of, is_comment, lone_number}
use Rattle.lgp_command.specs.Span.{WordRange, range_of}
use Rattle.lgp_command.specs.declared.command.Command.TheVariants as commands
use Rattle.lgp_fields.specs.declared.records.RecordForm.{RecordForm}
use Rattle.lgp_fields.specs.declared.records.RecordForm.TheVariants.{Lines, Objects}
use Rattle.lgp_when.specs.declared.condition.Condition.{Condition}
use Rattle.lgp_when.specs.declared.condition.Condition.TheVariants as conditions
use Rattle.lgp_when.specs.declared.until.Until.{Until}
use Rattle.lgp_monitor.specs.Scaled.{point_of}
use Rattle.lgp_monitor.specs.Mistakes.{address_mistake, takes_numbers, takes_place, value_mistake}
use Rattle.lgp_monitor.specs.Verbs.{verb_names}
use Rattle.lgp_monitor.specs.Wrongs.{name_wrong, next_word}
use Rattle.lgp_monitor.specs.declared.data_question.DataQuestion.{DataQuestion}
use Rattle.lgp_monitor.specs.declared.data_question.DataQuestion.TheVariants as data_questions
use Rattle.lgp_monitor.specs.Telling.{form_of}
use Rattle.lgp_monitor.specs.declared.question.Question.{Question}
use Rattle.lgp_monitor.specs.declared.question.Question.TheVariants as questions
use Rattle.lgp_monitor.specs.declared.telling.Report.{Report}
use Rattle.lgp_monitor.specs.declared.telling.Report.TheVariants as reports
use Rattle.lgp_monitor.specs.declared.telling.Telling.{Telling}
use Rattle.lgp_monitor.specs.declared.telling.Telling.TheVariants as tellings
use Rattle.lgp_monitor.specs.declared.verb.AddressCommand.{AddressCommand}
use Rattle.lgp_monitor.specs.declared.verb.AddressCommand.TheVariants as address_commands
use Rattle.lgp_monitor.specs.declared.verb.LoneCommand.{LoneCommand}
use Rattle.lgp_monitor.specs.declared.verb.LoneCommand.TheVariants as lone_commands
use Rattle.lgp_monitor.specs.declared.verb.NumberCommand.{NumberCommand}
use Rattle.lgp_monitor.specs.declared.verb.NumberCommand.TheVariants as number_commands
use Rattle.lgp_monitor.specs.declared.verb.RangeCommand.{RangeCommand}
use Rattle.lgp_monitor.specs.declared.verb.RangeCommand.TheVariants as range_commands
use Rattle.lgp_monitor.specs.declared.verb.Verb.{Verb}
use Rattle.lgp_monitor.specs.declared.verb.Verb.TheVariants as verbs
use Rattle.lgp_monitor.specs.declared.mistake.Mistake.TheVariants as mistakes
use Rattle.lgp_monitor.specs.declared.wrong.LineWord.{LineWord}
use Rattle.lgp_monitor.specs.declared.wrong.LineWord.TheVariants.{First, Second, Third, Fifth}
use Rattle.lgp_monitor.specs.declared.way.Way.TheVariants.{Order, Sought}
use Rattle.lgp_moment.specs.declared.search.Which.{Which}
use Rattle.lgp_moment.specs.declared.search.Which.TheVariants as whiches
use Rattle.lgp_monitor.specs.declared.wrong.Part.TheVariants as parts
use Rattle.lgp_monitor.specs.declared.wrong.Wrong.{Wrong}
use Rattle.lgp_monitor.specs.declared.wrong.Wrong.TheVariants.{Operands}
use Rattle.lgp_monitor.specs.declared.wrong.Wrong.TheVariants as wrongs
use Rattle.lgp_monitor.specs.declared.entry.Entry.{Entry}
use Rattle.lgp_monitor.specs.declared.entry.Entry.TheVariants as entry

-- ---- what is read, or what is wrong

-- what comes of what was read; what is wrong stays so
abbrev pub and_then : {T U : Type 0} → (T → Result U Wrong) → Result T Wrong → Result U Wrong
and_then next (Ok read) = next read
and_then next (Err wrong) = Err wrong

-- what is read of the operands of a command, which are wrong where that is nothing
abbrev pub read_of : {T : Type 0} → Verb → Option T → Result T Wrong
read_of verb read = ok_or read (Operands verb)

-- ---- words of operands

-- the first of some operands
abbrev pub operand_at : List ℕ → Option (List ℕ)
operand_at operands = if has_no_word operands then None else Some (first_word operands)

-- what comes after a command's name, where it is one word at most
abbrev pub lone_word : List ℕ → Option (List ℕ)
lone_word operands = if has_no_word (after_word operands) then Some (first_word operands) else None

-- the place after which a number's point is, 30 where none is given
abbrev pub point_at : List ℕ → List ℕ
point_at operands = unwrap_or (operand_at operands) (codes "30")

-- whether operands are a name and a number, or what is written in its place
abbrev pub is_counted : List ℕ → List ℕ → Bool
is_counted name operands =
    bytes_eq (first_word operands) name && not (has_no_word (after_word operands))

-- eight digits or a fraction
unfoldable pub digits_or_fraction : List ℕ → Option ℕ
digits_or_fraction text =
    option_or (word_of_digits text)
    (option_map (λ steps. low_bits (pos 2 *ℤ steps)) (result_ok (decimal_fraction text)))

-- the place after which the point of numbers is, by what comes after how many they are
abbrev pub lone_point : List ℕ → Option ℕ
lone_point operands =
    if has_no_word (after_word operands) then point_of (point_at operands) else None

-- ---- addresses and words

-- why the operands of `=`, or of an operation without an address, are no word
abbrev pub numbers_wrong : List ℕ → List ℕ → Wrong
numbers_wrong operation operands =
    if bytes_eq operation (codes "=") && not (has_no_word operands)
    then wrongs.Word Third mistakes.Whole
    else (if bytes_eq operation (codes "int") && has_no_word (after_word operands)
    then wrongs.Word Second mistakes.Point else Operands verbs.Word)

-- with the names of the last source and what `*` is: the counter, or the place of a word
module _ (names : List (List ℕ × ℕ)) (place : ℕ) where
  -- an address is written as an operand of the last source: as ttss, by a name or by `*`, and
  -- perhaps with a sign and a number after it
  unfoldable pub address_at : LineWord → List ℕ → Result ℕ Wrong
  address_at which text =
      result_map_both (λ address. address)
      (λ fault. wrongs.Word which (address_mistake fault text)) (address_operand names place text)

  -- the first of the operands of a command as an address
  unfoldable pub first_address : Verb → LineWord → List ℕ → Result ℕ Wrong
  first_address verb which operands =
      if has_no_word operands then Err (Operands verb)
      else address_at which (first_word operands)

  -- an operation of the last source with at most two operands, of which `*` is the place
  unfoldable pub operation_at : List ℕ → Option ℕ
  operation_at line =
      if has_no_word (after_word (after_word (after_word line)))
      then result_ok (operation_word names place (first_word line) (operand_at (after_word line))
      (operand_at (after_word (after_word line))))
      else None

  -- after `=` a whole number and the place after which its point is
  unfoldable pub whole_at : List ℕ → Option ℕ
  whole_at operands =
      if has_no_word (after_word (after_word operands))
      then result_ok (operation_word names place (codes "int") (Some (first_word operands))
      (Some (point_at (after_word operands))))
      else None

  -- the value after `put ttss`: `=` and a number, eight digits, a fraction, or an operation
  unfoldable pub value_at : List ℕ → Option ℕ
  value_at operands =
      if bytes_eq (first_word operands) (codes "=") then whole_at (after_word operands)
      else option_or (option_and_then digits_or_fraction (lone_word operands))
      (operation_at operands)

  -- the value after `<`: a whole number and the place after which its point is, or as after `put ttss`
  abbrev pub bound_at : List ℕ → Option ℕ
  bound_at operands = option_or (whole_at operands) (value_at operands)

  -- the condition on the machine at an address, by what comes after that: nothing, where the machine
  -- is to come there; `<` and a value, than which the word there is to be less; or its value
  abbrev pub condition_of : List ℕ → Option Condition
  condition_of value =
      if has_no_word value then Some (conditions.At place)
      else (if bytes_eq (first_word value) (codes "<")
      then option_map (conditions.Below place) (bound_at (after_word value))
      else option_map (conditions.Equal place) (value_at value))

  -- why a value is no word
  abbrev pub value_wrong : List ℕ → Wrong
  value_wrong value =
      if has_no_word value then Operands verbs.Word
      else (if takes_place (first_word value)
      then unwrap_or (result_err (first_address verbs.Word Third (after_word value)))
      (Operands verbs.Word)
      else (if takes_numbers (first_word value)
      then numbers_wrong (first_word value) (after_word value)
      else wrongs.Word Second (value_mistake (first_word value))))

-- ---- the commands

-- what a command asks for with an address
abbrev pub asked_at : AddressCommand → ℕ → Entry
asked_at address_commands.Break address = entry.Script (commands.Break address)
asked_at address_commands.Watch address = entry.Script (commands.Watch address)
asked_at address_commands.Go address = entry.Go address
asked_at address_commands.Why address = entry.Asked (questions.Why address)
asked_at address_commands.WhyData address =
    entry.Asked (questions.Data (data_questions.Why address) Lines)
asked_at address_commands.Cost address =
    entry.Asked (questions.Data (data_questions.Cost address) Lines)

-- what a command asks for with a number; those of scripts are read as scripts have them
abbrev pub asked_with : NumberCommand → ℕ → Option Entry
asked_with number_commands.Script number = None
asked_with (number_commands.Trace form) limit = Some (entry.Reported (tellings.Trace form) limit)
asked_with (number_commands.Profile form) limit =
    Some (entry.Reported (tellings.Profile form) limit)
asked_with number_commands.Drum limit = Some (entry.Reported tellings.Drum limit)
asked_with number_commands.Operate limit = Some (entry.Operate limit)
asked_with number_commands.PaperData from =
    Some (entry.Asked (questions.Data (data_questions.Paper from) Lines))

-- what a command asks for with a range of words
abbrev pub asked_of : RangeCommand → WordRange → Entry
asked_of range_commands.Words range = entry.Script (commands.Words range)
asked_of range_commands.Show range = entry.Script (commands.Show range)
asked_of range_commands.ShowData range =
    entry.Asked (questions.Data (data_questions.Show range) Lines)

-- a question for programs, answered by lines
abbrev pub data_asked : DataQuestion → Option Entry
data_asked question = Some (entry.Asked (questions.Data question Lines))

-- what a command asks for by itself; those of scripts are read as scripts have them
abbrev pub asked_alone : LoneCommand → Option Entry
asked_alone lone_commands.Script = None
asked_alone lone_commands.ScriptQuestion = None
asked_alone lone_commands.Paper = Some (entry.Asked questions.Paper)
asked_alone lone_commands.Rules = Some (entry.Asked questions.Rules)
asked_alone lone_commands.Labels = Some (entry.Asked questions.Labels)
asked_alone lone_commands.Live = Some (entry.Asked questions.Live)
asked_alone lone_commands.Commands = Some (entry.Asked questions.Commands)
asked_alone lone_commands.PanelData = data_asked data_questions.Panel
asked_alone lone_commands.CommandsData = data_asked data_questions.Commands
asked_alone lone_commands.OperationsData = data_asked data_questions.Operations
asked_alone lone_commands.FaultsData = data_asked data_questions.Faults
asked_alone lone_commands.StateData = data_asked data_questions.State
asked_alone lone_commands.LabelsData = data_asked data_questions.Labels
asked_alone lone_commands.RulesData = data_asked data_questions.Rules
asked_alone lone_commands.TapeData = data_asked data_questions.Tape
asked_alone lone_commands.SourceData = data_asked data_questions.Source
asked_alone lone_commands.Transcript = Some entry.Transcript
asked_alone lone_commands.New = Some entry.New

-- ---- replies for programs

-- whether a reply is for programs
abbrev pub is_records : Report → Bool
is_records (reports.Records form) = true
is_records report = false

abbrev pub is_data : Question → Bool
is_data (questions.Data question form) = true
is_data question = false

abbrev pub is_for_programs : Entry → Bool
is_for_programs (entry.Asked question) = is_data question
is_for_programs (entry.Reported telling limit) = is_records (form_of telling)
is_for_programs (entry.To way form) = true
is_for_programs asked = false

-- whether it has objects of JSON
abbrev pub is_objects : Report → Bool
is_objects (reports.Records Objects) = true
is_objects report = false

abbrev pub has_objects : Entry → Bool
has_objects (entry.Asked (questions.Data question Objects)) = true
has_objects (entry.Reported telling limit) = is_objects (form_of telling)
has_objects (entry.To way Objects) = true
has_objects asked = false

-- what is asked for, with a reply for programs as objects of JSON
abbrev pub report_as_objects : Report → Report
report_as_objects (reports.Records form) = reports.Records Objects
report_as_objects reports.Columns = reports.Columns

abbrev pub telling_as_objects : Telling → Telling
telling_as_objects (tellings.Trace report) = tellings.Trace (report_as_objects report)
telling_as_objects (tellings.Profile report) = tellings.Profile (report_as_objects report)
telling_as_objects tellings.Drum = tellings.Drum
telling_as_objects (tellings.Optimum report) = tellings.Optimum (report_as_objects report)
telling_as_objects (tellings.OptimumOf report word) =
    tellings.OptimumOf (report_as_objects report) word

abbrev pub question_as_objects : Question → Question
question_as_objects (questions.Data question form) = questions.Data question Objects
question_as_objects question = question

abbrev pub as_objects : Entry → Entry
as_objects (entry.Asked question) = entry.Asked (question_as_objects question)
as_objects (entry.Reported telling limit) = entry.Reported (telling_as_objects telling) limit
as_objects (entry.To way form) = entry.To way Objects
as_objects asked = asked

-- what is asked for with replies for programs in a form
abbrev pub in_form : RecordForm → Entry → Entry
in_form Lines asked = asked
in_form Objects asked = as_objects asked

-- ---- a line

-- what is asked for by a whole line
abbrev pub asked_by : Result Entry Wrong → Entry
asked_by (Ok asked) = asked
asked_by (Err wrong) = entry.Misformed parts.Line wrong

-- what is asked for by a line after `json`, whose reply is objects of JSON; where that line is in
-- form and has another reply, or is not there, the whole line is not in form
abbrev pub asked_as_objects : List ℕ → Result Entry Wrong → Entry
asked_as_objects line (Ok asked) =
    if is_for_programs asked then as_objects asked else asked_by (Err (Operands verbs.Line))
asked_as_objects line (Err wrong) =
    if has_no_word line || is_some (command_of line) then asked_by (Err (Operands verbs.Line))
    else entry.Misformed parts.AfterName wrong

-- whether the second word is `times`, after a number
abbrev pub is_times : List ℕ → Bool
is_times operands = bytes_eq (first_word (after_word operands)) (codes "times")

-- the number after the name of a condition
abbrev pub counted_by : Verb → List ℕ → Result ℕ Wrong
counted_by verb operands = read_of verb (lone_number (after_word operands))

-- with the names of the last source and the counter
module _ (names : List (List ℕ × ℕ)) (counter : ℕ) where
  -- a range of words, by an address and a number
  unfoldable pub range_at : Verb → List ℕ → List ℕ → Result WordRange Wrong
  range_at verb operands count =
      and_then (λ first. read_of verb (option_and_then (range_of first) (lone_number count)))
      (first_address names counter verb First operands)

  -- a command with an address and no more
  unfoldable pub address_entry : AddressCommand → List ℕ → Result Entry Wrong
  address_entry command operands =
      and_then (λ address. read_of (verbs.Address command)
      (if has_no_word (after_word operands) then Some (asked_at command address) else None))
      (first_address names counter (verbs.Address command) First operands)

  -- a range of words as numbers, and the place after which their point is
  unfoldable pub numbers_entry : List ℕ → Result Entry Wrong
  numbers_entry operands =
      let count = after_word operands in
      and_then (λ range. read_of verbs.ScaledRange
      (option_map (λ place. entry.Asked (questions.Numbers range place))
      (lone_point (after_word count))))
      (range_at verbs.ScaledRange operands (first_word count))

  -- what a view draws after a step: a range of words, and how many printed codes are known
  unfoldable pub look_entry : List ℕ → Result Entry Wrong
  look_entry operands =
      let count = after_word operands in
      and_then (λ range. read_of verbs.CountedRange
      (option_map (λ from. entry.Asked (questions.Data (data_questions.Look range from) Lines))
      (lone_number (after_word count))))
      (range_at verbs.CountedRange operands (first_word count))

  -- the word whose address comes after the number of a run
  abbrev pub optimum_of : Report → List ℕ → ℕ → Result Entry Wrong
  optimum_of form place limit =
      and_then (λ word. read_of (verbs.NumberAddress form)
      (if has_no_word (after_word place)
      then Some (entry.Reported (tellings.OptimumOf form word) limit) else None))
      (address_at names counter Second (first_word place))

  -- a run of which the words with most to gain are reported in a form, or the word whose address
  -- comes after its number
  unfoldable pub optimum_entry : Report → List ℕ → Result Entry Wrong
  optimum_entry form operands =
      let place = after_word operands in
      and_then (λ limit. if has_no_word place then Ok (entry.Reported (tellings.Optimum form) limit)
      else optimum_of form place limit)
      (read_of (verbs.NumberAddress form) (lone_number (first_word operands)))

  -- an address of which an order leaves another word
  abbrev pub change_at : Verb → LineWord → List ℕ → Result Condition Wrong
  change_at verb which operands =
      and_then (λ place. read_of verb
      (if has_no_word (after_word operands) then Some (conditions.Changed place) else None))
      (first_address names counter verb which operands)

  -- a condition that a command names, of which this is the first word: a number of codes or rows
  -- printed, of word times over, a word changed, or one on the machine at an address
  unfoldable pub condition_at : Verb → LineWord → List ℕ → Result Condition Wrong
  condition_at verb which operands =
      if is_counted (codes "printed") operands
      then and_then (λ codes. Ok (conditions.Printed codes)) (counted_by verb operands)
      else (if is_counted (codes "rows") operands
      then and_then (λ rows. Ok (conditions.Rows rows)) (counted_by verb operands)
      else (if is_counted (codes "clock") operands
      then and_then (λ time. Ok (conditions.Clock time)) (counted_by verb operands)
      else (if is_counted (codes "changed") operands
      then change_at verb (next_word which) (after_word operands)
      else and_then (λ place. read_of verb (condition_of names place (after_word operands)))
      (first_address names counter verb which operands))))

  -- what a run waits for: a condition met once, or as many times as are named before it
  abbrev pub until_at : List ℕ → Result Until Wrong
  until_at operands =
      if is_times operands
      then and_then (λ times. and_then (λ condition. Ok (record { condition = condition; times = times }))
      (condition_at verbs.Run Fifth (after_word (after_word operands))))
      (read_of verbs.Run (lone_number (first_word operands)))
      else and_then (λ condition. Ok (record { condition = condition; times = 1 }))
      (condition_at verbs.Run Third operands)

  -- a run that ends with the order that meets a condition for the last of these times
  unfoldable pub run_entry : List ℕ → Result Entry Wrong
  run_entry operands =
      let until = after_word operands in
      and_then (λ limit. if bytes_eq (first_word until) (codes "until")
      then and_then (λ waited. Ok (entry.Until waited limit)) (until_at (after_word until))
      else Err (Operands verbs.Run))
      (read_of verbs.Run (lone_number (first_word operands)))

  -- to the first or the last order that meets a condition
  abbrev pub to_sought : Which → List ℕ → Result Entry Wrong
  to_sought which operands =
      and_then (λ condition. Ok (entry.To (Sought which condition) Lines))
      (condition_at verbs.To Second operands)

  -- to the beginning of an order: that of a number, or the first or the last one that meets a
  -- condition
  unfoldable pub to_entry : List ℕ → Result Entry Wrong
  to_entry operands =
      if bytes_eq (first_word operands) (codes "first") then to_sought whiches.First (after_word operands)
      else (if bytes_eq (first_word operands) (codes "last")
      then to_sought whiches.Last (after_word operands)
      else read_of verbs.To (option_map (λ order. entry.To (Order order) Lines) (lone_number operands)))

  -- a word for an address
  unfoldable pub put_entry : List ℕ → Result Entry Wrong
  put_entry operands =
      let value = after_word operands in
      and_then (λ place. ok_or
      (option_map (λ word. entry.Script (commands.Put place word)) (value_at names place value))
      (value_wrong names place value))
      (first_address names counter verbs.Word First operands)

  -- a command with its operands, by what comes after its name; of some the script's own form is
  -- the only one
  unfoldable pub entry_by : List ℕ → Verb → Result Entry Wrong
  entry_by operands (verbs.Lone command) =
      read_of (verbs.Lone command)
      (if has_no_word operands then asked_alone command else None)
  entry_by operands (verbs.Address command) = address_entry command operands
  entry_by operands (verbs.Number command) =
      read_of (verbs.Number command)
      (option_and_then (asked_with command) (lone_number operands))
  entry_by operands (verbs.NumberAddress form) = optimum_entry form operands
  entry_by operands verbs.Run = run_entry operands
  entry_by operands verbs.To = to_entry operands
  entry_by operands (verbs.Range command) =
      and_then (λ range. Ok (asked_of command range))
      (range_at (verbs.Range command) operands (after_word operands))
  entry_by operands verbs.ScaledRange = numbers_entry operands
  entry_by operands verbs.CountedRange = look_entry operands
  entry_by operands verbs.Word = put_entry operands
  entry_by operands verbs.Command =
      read_of verbs.Command (if has_no_word operands then Some entry.Help
      else option_map entry.HelpOf (option_and_then (named verb_names) (lone_word operands)))
  entry_by operands verb = Err (Operands verb)

  -- a line in the monitor's own forms
  abbrev pub plain_entry : List ℕ → Result Entry Wrong
  plain_entry line =
      option_map_or (entry_by (after_word line)) (named verb_names (first_word line))
      (Err (name_wrong (first_word line)))

  -- the same, or a line that asks by another one for programs
  abbrev pub typed_by : List ℕ → Verb → Entry
  typed_by operands verbs.Line = asked_as_objects operands (plain_entry operands)
  typed_by operands verb = asked_by (entry_by operands verb)

  -- a line that is no command of scripts
  unfoldable pub typed_entry : List ℕ → Entry
  typed_entry line =
      option_map_or (typed_by (after_word line)) (named verb_names (first_word line))
      (asked_by (Err (name_wrong (first_word line))))

  -- what a line asks for where no source is open: one that is too long, a comment and a blank one
  -- stand for themselves, then come the commands of scripts
  unfoldable pub entry_of : Kept → Entry
  entry_of kept =
      if kept.longer || kept.blank || is_comment kept.front then entry.Itself
      else option_map_or entry.Script (command_of kept.front) (typed_entry kept.front)

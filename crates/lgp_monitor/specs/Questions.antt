-- Part of the public promise: what is shown and changes nothing: words as numbers, where a word
-- came from, the paper, the names of the last source, the rules, what is live, the commands, the
-- panel.
use Rattle.std.specs.Prelude.{ℕ, ◌+◌, ◌++◌, if◌then◌else◌, nat_lt, not, List, [], ◌∷◌, codes}
use Rattle.std.specs.Prelude.{decimal, flat_map, length}
use Rattle.lgp_word.specs.Digits.{address_digits, digits_of}
use Rattle.lgp_fraction.specs.Arithmetic.{half}
use Rattle.lgp_fraction.specs.Decimal.{decimal_text}
use Rattle.lgp_exchange.specs.Paper.{paper_of}
use Rattle.lgp_history.specs.declared.rule.Rule.{Rule}
use Rattle.lgp_history.specs.declared.rule.Rule.TheVariants.{At, Changed}
use Rattle.lgp_script.specs.DrumCommands.{lines_text}
use Rattle.lgp_command.specs.Names.{button_names}
use Rattle.lgp_script.specs.LabState.{LabState, labels_of}
use Rattle.lgp_table.specs.Console.{is_halted, is_live, is_manual, is_waiting, takes_codes}
use Rattle.lgp_table.specs.declared.action.Action.{Action}
use Rattle.lgp_table.specs.declared.panel.Mode.{Mode}
use Rattle.lgp_table.specs.declared.panel.Panel.{Panel}
use Rattle.lgp_table.specs.declared.panel.Status.{Status}
use Rattle.lgp_trace.specs.OriginLines.{why_text}
use Rattle.lgp_monitor.specs.DataQuestions.{data_for}
use Rattle.lgp_monitor.specs.Forms.{commands_text}
use Rattle.lgp_monitor.specs.Scaled.{scaled_text}
use Rattle.lgp_monitor.specs.Telling.{label_of}
use Rattle.lgp_monitor.specs.declared.question.Question.{Question}
use Rattle.lgp_monitor.specs.declared.question.Question.TheVariants as questions

-- a word by its digits, as a fraction, and as the number whose point is after a place
unfoldable pub number_line : ℕ → ℕ → ℕ → List ℕ
number_line point address word =
    address_digits address
    ++ (codes " " ++ (digits_of word ++ (codes "  " ++ (decimal_text (half word) ++ (codes "  "
    ++ (scaled_text point word ++ codes "\n"))))))

-- how many codes were printed, and the paper with them
unfoldable pub paper_text : List ℕ → List ℕ
paper_text printed =
    codes "paper " ++ (decimal (length printed) ++ (codes "\n" ++ (paper_of printed ++ codes "\n")))

-- a name and its value: an address, or the place after the drum's last
unfoldable pub label_line : List ℕ × ℕ → List ℕ
label_line symbol =
    symbol.0 ++ (codes " "
    ++ ((if nat_lt symbol.1 4096 then address_digits symbol.1 else codes "past the drum")
    ++ codes "\n"))

-- the command that makes a rule, and its address
abbrev pub rule_command : Rule → List ℕ
rule_command (At address) = codes " break "
rule_command (Changed address) = codes " watch "

abbrev pub rule_address : Rule → ℕ
rule_address (At address) = address
rule_address (Changed address) = address

module _ (names : List (List ℕ × ℕ)) where
  -- a rule's number, the command that made it, its address, and after it the address's label
  unfoldable pub rule_line : ℕ → Rule → List ℕ
  rule_line number rule =
      codes "rule " ++ (decimal number ++ (rule_command rule ++ (address_digits (rule_address rule)
      ++ (label_of names (rule_address rule) ++ codes "\n"))))

  -- rules whose first has this number
  unfoldable pub rule_lines : ℕ → List Rule → List ℕ
  rule_lines number [] = []
  rule_lines number (rule ∷ more) = rule_line number rule ++ rule_lines (number + 1) more

-- ---- live: which buttons and keys would do something now

-- a blank and an action's name, where it is live
abbrev pub live_name : Panel → List ℕ × Action → List ℕ
live_name panel named = if is_live panel named.1 then codes " " ++ named.0 else []

-- the keys whose signs enter, and the conditional stop
abbrev pub live_keys : Status → Mode → List ℕ
live_keys status mode =
    (if takes_codes status mode then codes " keys" else [])
    ++ (if is_waiting status then codes " stop" else [])

-- what lets the machine go on: its orders are performed, an input takes keys, or Start is pressed,
-- in Manual after Normal
abbrev pub way_text : Status → Mode → List ℕ
way_text status mode =
    if is_waiting status then codes "\nway keys\n"
    else (if not (is_halted status) then codes "\nway orders\n"
    else (if is_manual mode then codes "\nway normal start\n" else codes "\nway start\n"))

unfoldable pub live_text : Panel → List ℕ
live_text panel =
    codes "live" ++ (flat_map (live_name panel) button_names
    ++ (live_keys panel.status panel.mode ++ way_text panel.status panel.mode))

unfoldable pub answer_to : Question → LabState → List ℕ
answer_to (questions.Numbers range point) lab =
    lines_text (number_line point) lab.debugger.state range.first range.count
answer_to (questions.Why address) lab =
    why_text (label_of (labels_of lab.source)) lab.debugger address
answer_to questions.Paper lab = paper_text lab.debugger.state.printed
answer_to questions.Labels lab = flat_map label_line (labels_of lab.source)
answer_to questions.Rules lab =
    rule_lines (labels_of lab.source) 0 lab.debugger.rules
answer_to questions.Live lab = live_text lab.debugger.state.core.panel
answer_to questions.Commands lab = commands_text
answer_to (questions.Data asked form) lab = data_for form asked lab

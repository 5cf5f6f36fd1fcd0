-- Part of the public promise. The lines of an account: one with its columns, then those that begin
-- with eight blanks, each only where there is something to say. A label says what comes after an
-- address; for an address without one that is nothing.
use Rattle.std.specs.Prelude.{ℕ, ◌-◌, ◌/◌, ◌^◌, ◌++◌, ◌==◌, ◌&&◌, Bool, if◌then◌else◌}
use Rattle.std.specs.Prelude.{Option, Some, None, List, [], ◌∷◌, codes, decimal, is_some}
use Rattle.std.specs.Option.{option_map_or}
use Rattle.lgp_word.specs.Digits.{address_digits, digits_of}
use Rattle.lgp_word.specs.Order.{address_at, decoded, op_at, op_letter, sign_of}
use Rattle.lgp_word.specs.Order.{takes_minus}
use Rattle.lgp_word.specs.declared.order.Op.{Op}
use Rattle.lgp_word.specs.declared.order.Op.TheVariants.{Z, I, P}
use Rattle.lgp_flexo.specs.Code.{sign_at}
use Rattle.lgp_table.specs.declared.panel.Status.{Status}
use Rattle.lgp_table.specs.declared.panel.Status.TheVariants as statuses
use Rattle.lgp_table.specs.Activity.{stores}
use Rattle.lgp_text.specs.PanelWords.{status_text}
use Rattle.lgp_trace.specs.Columns.{left_aligned, right_aligned, spaced_number}
use Rattle.lgp_trace.specs.Phases.{all_phases}
use Rattle.lgp_trace.specs.declared.account.Account.{Account}
use Rattle.lgp_trace.specs.declared.account.Operand.{Operand}
use Rattle.lgp_trace.specs.declared.phases.Phases.{Phases}

-- the line above accounts
unfoldable pub heading_text : List ℕ
heading_text =
    codes "  clock  at           order           find take seek  act   sum  accumulator\n"

-- ---- addresses, orders and words

-- an address with its label
unfoldable pub place_text : (ℕ → List ℕ) → ℕ → List ℕ
place_text label address = address_digits address ++ label address

abbrev pub minus_text : Bool → List ℕ
minus_text minus = if minus then codes "-" else []

-- the label after the address of an order that refers to a word: all but z, i and p do
abbrev pub reference_text : (ℕ → List ℕ) → Op → ℕ → List ℕ
reference_text label Z address = []
reference_text label I address = []
reference_text label P address = []
reference_text label _ address = label address

-- any word as the order that is performed, with the label of the word that it refers to
unfoldable pub performed_text : (ℕ → List ℕ) → ℕ → List ℕ
performed_text label word =
    minus_text (takes_minus (op_at word) && sign_of word) ++ (op_letter (op_at word) ∷ codes " "
    ++ (address_digits (address_at word) ++ reference_text label (op_at word) (address_at word)))

-- a word as a number, one half of its bits with its sign: the binary point comes after bit 30
abbrev pub number_text : ℕ → List ℕ
number_text word =
    if sign_of word then codes "-" ++ decimal ((2 ^ 32 - word) / 2) else decimal (word / 2)

-- an order after the digits of the word that is one
abbrev pub order_after : (ℕ → List ℕ) → ℕ → List ℕ
order_after label word =
    if is_some (decoded word) then codes " " ++ performed_text label word else []

-- a word by its digits, as the order that it is, if it is one, and as a number
unfoldable pub word_text : (ℕ → List ℕ) → ℕ → List ℕ
word_text label word =
    digits_of word ++ (order_after label word ++ (codes " = " ++ number_text word))

-- ---- the line with columns

unfoldable pub phases_text : Phases → List ℕ
phases_text phases =
    spaced_number 5 phases.find ++ (spaced_number 4 phases.take ++ (spaced_number 4 phases.seek
    ++ (spaced_number 4 phases.act ++ spaced_number 5 (all_phases phases))))

-- the accumulator, or before and after it has changed
unfoldable pub accumulator_text : ℕ → ℕ → List ℕ
accumulator_text before after =
    if before == after
    then digits_of before else digits_of before ++ (codes " -> " ++ digits_of after)

-- where the order is, and the order; where there is none, the status in which the activity
-- begins
unfoldable pub order_columns : (ℕ → List ℕ) → Account → List ℕ
order_columns label account =
    left_aligned 12 (option_map_or (place_text label) account.place [])
    ++ (codes " " ++ left_aligned 14
    (option_map_or (performed_text label) account.order (status_text account.before.status)))

-- how long its phases took, and the accumulator
unfoldable pub result_columns : Account → List ℕ
result_columns account =
    phases_text account.phases
    ++ (codes "  "
    ++ (accumulator_text account.before.accumulator account.after.accumulator ++ codes "\n"))

unfoldable pub account_line : (ℕ → List ℕ) → Account → List ℕ
account_line label account =
    right_aligned 7 account.before.clock
    ++ (codes "  " ++ (order_columns label account ++ result_columns account))

-- ---- the lines below it

abbrev pub register_line : Status → List ℕ
register_line statuses.Executing = codes "        the order stood in the instruction register\n"
register_line _ = []

-- a word, and the one that took its place
unfoldable pub change_text : (ℕ → List ℕ) → ℕ → ℕ → List ℕ
change_text label before after =
    codes ": "
    ++ (word_text label before ++ (codes " -> " ++ (word_text label after ++ codes "\n")))

-- what an order has stored: the word that was there and the one that is there now
unfoldable pub stored_line : (ℕ → List ℕ) → Operand → List ℕ
stored_line label operand =
    codes "        "
    ++ (place_text label operand.address ++ change_text label operand.found operand.left)

abbrev pub stored_lines : (ℕ → List ℕ) → Option ℕ → Option Operand → List ℕ
stored_lines label (Some order) (Some operand) =
    if stores (op_at order) then stored_line label operand else []
stored_lines label _ _ = []

-- the sign of a code after its number, where it has one
unfoldable pub sign_text : Option ℕ → List ℕ
sign_text None = []
sign_text (Some sign) = codes ", sign \"" ++ (sign ∷ codes "\"")

unfoldable pub printed_line : ℕ → List ℕ
printed_line code =
    codes "        printed code " ++ (decimal code ++ (sign_text (sign_at code) ++ codes "\n"))

abbrev pub passed_lines : ℕ → List ℕ
passed_lines count =
    if count == 0 then [] else codes "        codes passed: " ++ (decimal count ++ codes "\n")

unfoldable pub account_details : (ℕ → List ℕ) → Account → List ℕ
account_details label account =
    register_line account.before.status ++ (stored_lines label account.order account.operand
    ++ (option_map_or printed_line account.printed [] ++ passed_lines account.passed))

-- all lines of an account
abbrev pub account_text : (ℕ → List ℕ) → Account → List ℕ
account_text label account = account_line label account ++ account_details label account

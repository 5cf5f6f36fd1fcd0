-- Part of the public promise: what operands stand for. This project's own choice.
use Rattle.std.specs.Prelude.{ℕ, ◌-◌, ◌*◌, ◌%◌, ◌^◌, ◌==◌, nat_le, nat_lt, Bool}
use Rattle.std.specs.Prelude.{true, false, if◌then◌else◌, List, length, drop}
use Rattle.std.specs.Prelude.{slice_index, Option, None, Some, Result, Ok, Err, ok_or}
use Rattle.std.specs.Prelude.{ℤ, pos, ◌*ℤ◌, option_map}
use Rattle.lgp_word.specs.declared.order.Op.{Op}
use Rattle.lgp_word.specs.declared.order.Op.TheVariants.{P, T}
use Rattle.lgp_word.specs.Drum.{track_size}
use Rattle.lgp_word.specs.Order.{order_word, plain_order}
use Rattle.lgp_word.specs.Decimal.{decimal_number}
use Rattle.lgp_word.specs.Digits.{address_text, word_of_digits}
use Rattle.lgp_fraction.specs.declared.fraction.FractionFault.{FractionFault}
use Rattle.lgp_fraction.specs.declared.fraction.FractionFault.TheVariants.{Form, OutOfRange}
use Rattle.lgp_fraction.specs.Arithmetic.{low_bits}
use Rattle.lgp_fraction.specs.Decimal.{decimal_fraction}
use Rattle.lgp_flexo.specs.Code.{code_at}
use Rattle.lgp_assembler.specs.AddressOperands.{address_operand}
use Rattle.lgp_assembler.specs.Parts.{NameList}
use Rattle.lgp_assembler.specs.declared.operations.Operation.{Operation}
use Rattle.lgp_assembler.specs.declared.operations.Operation.TheVariants.{Order, MinusT, Org, Word}
use Rattle.lgp_assembler.specs.declared.operations.Operation.TheVariants.{Frac, Int, End}
use Rattle.lgp_assembler.specs.declared.operands.OperandFault.{OperandFault}
use Rattle.lgp_assembler.specs.declared.operands.OperandFault.TheVariants.{Misformed}
use Rattle.lgp_assembler.specs.declared.operands.OperandFault.TheVariants.{Outside}
use Rattle.lgp_assembler.specs.declared.operands.Meaning.{Meaning}
use Rattle.lgp_assembler.specs.declared.operands.Meaning.TheVariants.{Cell, Place, Nothing}

-- what operands stand for, or why they stand for nothing
abbrev pub MeaningOrFault : Type 0
MeaningOrFault = Result Meaning OperandFault

-- ---- words

-- the word of an order with what its operand stands for
abbrev pub cell_of_order : Bool → Op → Result ℕ OperandFault → MeaningOrFault
cell_of_order minus op (Ok address) =
    Ok (Cell (order_word (record { minus = minus; op = op; address = address })))
cell_of_order minus op (Err fault) = Err fault

-- the p that prints a code, which is its track
abbrev pub printing_cell : ℕ → Meaning
printing_cell code = Cell (plain_order P (track_size * code))

-- `=` and one sign: the p that prints the sign's code
abbrev pub sign_operand : Op → List ℕ → MeaningOrFault
sign_operand P text =
    if length text == 2
    then ok_or (option_map printing_cell (code_at (slice_index text 1))) Misformed
    else Err Misformed
sign_operand _ text = Err Misformed

unfoldable pub order_operand : NameList → ℕ → Bool → Op → List ℕ → MeaningOrFault
order_operand names place minus op text =
    if slice_index text 0 == 61 then sign_operand op text
    else cell_of_order minus op (address_operand names place text)

-- n and q stand for n * 2^(31 - q), where n * 2^(30 - q) lies from -2^30 up to 2^30; `scaled` is
-- the size of the latter
abbrev pub scaled_word : Bool → ℕ → MeaningOrFault
scaled_word minus scaled =
    if minus
    then (if nat_le scaled (2 ^ 30) then Ok (Cell ((2 ^ 32 - 2 * scaled) % 2 ^ 32))
    else Err Outside)
    else (if nat_lt scaled (2 ^ 30) then Ok (Cell (2 * scaled)) else Err Outside)

-- without one minus in front
unfoldable pub unsigned_part : List ℕ → List ℕ
unsigned_part text = if slice_index text 0 == 45 then drop 1 text else text

-- the word of a size and of the place of its point, where both are numbers
abbrev pub word_of_parts : Bool → Option ℕ → Option ℕ → MeaningOrFault
word_of_parts minus (Some size) (Some point) =
    if nat_le point 30 then scaled_word minus (size * 2 ^ (30 - point)) else Err Misformed
word_of_parts minus _ _ = Err Misformed

-- n has perhaps a minus and one to ten digits, q one or two
unfoldable pub integer_word : List ℕ → List ℕ → MeaningOrFault
integer_word number point =
    let size = decimal_number 10 (unsigned_part number) in
    word_of_parts (slice_index number 0 == 45) size (decimal_number 2 point)

-- the word of a decimal
abbrev pub cell_of_fraction : Result ℤ FractionFault → MeaningOrFault
cell_of_fraction (Ok steps) = Ok (Cell (low_bits (pos 2 *ℤ steps)))
cell_of_fraction (Err Form) = Err Misformed
cell_of_fraction (Err OutOfRange) = Err Outside

abbrev pub place_meaning : Result ℕ OperandFault → MeaningOrFault
place_meaning (Ok address) = Ok (Place address)
place_meaning (Err fault) = Err fault

-- ---- what the operands of a line stand for, in its place and with the names of the whole source

unfoldable pub meaning_of : NameList → ℕ → Operation → Option (List ℕ) → Option (List ℕ)
    → MeaningOrFault
meaning_of names place (Order op) None second = Ok (Cell (plain_order op 0))
meaning_of names place (Order op) (Some text) second = order_operand names place false op text
meaning_of names place MinusT (Some text) second = order_operand names place true T text
meaning_of names place Org (Some text) second = place_meaning (ok_or (address_text text) Misformed)
meaning_of names place Word (Some text) second =
    ok_or (option_map Cell (word_of_digits text)) Misformed
meaning_of names place Frac (Some text) second = cell_of_fraction (decimal_fraction text)
meaning_of names place Int (Some number) (Some point) = integer_word number point
meaning_of names place End None second = Ok Nothing
meaning_of names place End (Some text) second = place_meaning (address_operand names place text)
meaning_of names place _ first second = Err Misformed

-- Part of the public promise: names, and what address operands stand for. This project's own
-- choice.
use Rattle.std.specs.Prelude.{ℕ, ◌+◌, ◌-◌, ◌==◌, ◌&&◌, ◌||◌, nat_le, nat_lt, Bool, false}
use Rattle.std.specs.Prelude.{if◌then◌else◌}
use Rattle.std.specs.Prelude.{List, length, take, drop, codes, slice_index}
use Rattle.std.specs.Prelude.{Option, Some, option_map, Result, Ok, Err, ok_or}
use Rattle.std.specs.Option.{option_map_or}
use Rattle.std.specs.Str.{bytes_eq}
use Rattle.std.specs.Char.{is_ascii_digit, is_ascii_lowercase}
use Rattle.std.specs.List.{list_all, position_or_len}
use Rattle.std.specs.Map.{lookup}
use Rattle.lgp_word.specs.Decimal.{decimal_number}
use Rattle.lgp_word.specs.Digits.{address_text}
use Rattle.lgp_word.specs.Drum.{drum_size}
use Rattle.lgp_assembler.specs.Parts.{NameList}
use Rattle.lgp_assembler.specs.declared.address_operands.Offset.{Offset}
use Rattle.lgp_assembler.specs.declared.operands.OperandFault.{OperandFault}
use Rattle.lgp_assembler.specs.declared.operands.OperandFault.TheVariants.{Misformed, Unknown}
use Rattle.lgp_assembler.specs.declared.operands.OperandFault.TheVariants.{Outside}

-- ---- names

-- a letter from a to z, or a digit
abbrev pub is_name_byte : ℕ → Bool
is_name_byte b = is_ascii_lowercase b || is_ascii_digit b

-- a name: a letter from a to z, then at most seven letters or digits
unfoldable pub is_name : List ℕ → Bool
is_name text =
    is_ascii_lowercase (slice_index text 0) && list_all is_name_byte text && nat_le (length text) 8

-- ---- address operands

-- `+` or `-`
abbrev pub is_sign : ℕ → Bool
is_sign b = b == 43 || b == 45

-- what comes after the base: nothing, or a sign and one to four digits
unfoldable pub offset_of : List ℕ → Option Offset
offset_of text =
    if length text == 0 then Some (record { minus = false; number = 0 })
    else option_map (λ number. record { minus = slice_index text 0 == 45; number = number })
    (decimal_number 4 (drop 1 text))

-- the number of a base: the place of the line, that of a name, or an address
unfoldable pub base_number : NameList → ℕ → List ℕ → Result ℕ OperandFault
base_number names place base =
    if bytes_eq base (codes "*") then Ok place
    else (if is_name base then ok_or (lookup (bytes_eq base) names) Unknown
    else ok_or (address_text base) Misformed)

-- the number of a place on the drum
abbrev pub in_range : ℕ → Result ℕ OperandFault
in_range number = if nat_lt number drum_size then Ok number else Err Outside

-- the address that lies an offset from a base, where that has a number
abbrev pub address_beside : Result ℕ OperandFault → Offset → Result ℕ OperandFault
address_beside (Err fault) offset = Err fault
address_beside (Ok number) offset =
    if offset.minus
    then (if nat_le offset.number number then in_range (number - offset.number) else Err Outside)
    else in_range (number + offset.number)

-- the value of an address operand: a base, then optionally a sign and a number
unfoldable pub address_operand : NameList → ℕ → List ℕ → Result ℕ OperandFault
address_operand names place text =
    let base = position_or_len is_sign text in
    option_map_or (address_beside (base_number names place (take base text)))
    (offset_of (drop base text)) (Err Misformed)

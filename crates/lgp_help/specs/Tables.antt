-- Part of the public promise: what is told about commands, operations and kinds of faults. Each table
-- is a text of the code, a row on each line, with a bar between two columns; what its words are, no
-- clause says a second time.
use Rattle.std.specs.Prelude.{ℕ, ◌==◌, Bool, if◌then◌else◌, List, [], ◌∷◌, ◌++◌}
use Rattle.std.specs.Prelude.{codes, drop, length, map, take}
use Rattle.std.specs.List.{position_or_len}
use Rattle.std.specs.Str.{byte, bytes_eq}
use Rattle.bstr.specs.Text.{lines_of, without_terminator}
use Rattle.lgp_fields.specs.Plain.{Plain, PlainField, Nothing, Text, field}
use Rattle.lgp_fields.specs.Printed.{record_in}
use Rattle.lgp_fields.specs.declared.records.RecordForm.{RecordForm}
use Rattle.lgp_help.specs.declared.tables.TheConstants.{COMMAND_KEYS, COMMANDS, FAULT_KEYS, FAULTS}
use Rattle.lgp_help.specs.declared.tables.TheConstants.{OPERATION_KEYS, OPERATIONS}

-- ---- the columns of a row

abbrev pub is_bar : ℕ → Bool
is_bar b = b == byte "|"

unfoldable pub first_column : List ℕ → List ℕ
first_column row = take (position_or_len is_bar row) row

unfoldable pub other_columns : List ℕ → List ℕ
other_columns row = drop 1 (drop (position_or_len is_bar row) row)

-- an empty column is no value
unfoldable pub column_value : List ℕ → Plain
column_value column = if length column == 0 then Nothing else Text column

-- a first column under its key
abbrev pub column_field : List ℕ → List ℕ → PlainField
column_field keys row = field (first_column keys) (column_value (first_column row))

-- the columns of a row after a number of them
abbrev pub after_two : List ℕ → List ℕ
after_two row = other_columns (other_columns row)

abbrev pub after_four : List ℕ → List ℕ
after_four row = after_two (after_two row)

-- a row's seven columns, each under its key
unfoldable pub row_fields : List ℕ → List ℕ → List PlainField
row_fields keys row =
    column_field keys row ∷ column_field (other_columns keys) (other_columns row)
    ∷ column_field (after_two keys) (after_two row)
    ∷ column_field (other_columns (after_two keys)) (other_columns (after_two row))
    ∷ column_field (after_four keys) (after_four row)
    ∷ column_field (other_columns (after_four keys)) (other_columns (after_four row))
    ∷ column_field (after_two (after_four keys)) (after_two (after_four row)) ∷ []

-- ---- tables

unfoldable pub rows_text : RecordForm → List ℕ → List (List ℕ) → List ℕ
rows_text form keys [] = []
rows_text form keys (row ∷ more) = record_in form (row_fields keys row) ++ rows_text form keys more

abbrev pub table_text : RecordForm → List ℕ → List ℕ → List ℕ
table_text form keys rows = rows_text form keys (map without_terminator (lines_of rows))

unfoldable pub commands_text : RecordForm → List ℕ
commands_text form = table_text form COMMAND_KEYS COMMANDS

unfoldable pub operations_text : RecordForm → List ℕ
operations_text form = table_text form OPERATION_KEYS OPERATIONS

unfoldable pub faults_text : RecordForm → List ℕ
faults_text form = table_text form FAULT_KEYS FAULTS

-- ---- a sentence on a kind of fault

-- of a row of the table of faults: what is wrong, and what would be right
abbrev pub row_said : List ℕ → List ℕ
row_said row =
    first_column (other_columns (after_two row)) ++ (codes ": " ++ first_column (after_four row))

-- the same of the first row that has this name
unfoldable pub said_in : List ℕ → List (List ℕ) → List ℕ
said_in name [] = []
said_in name (row ∷ more) =
    if bytes_eq (first_column row) name then row_said row else said_in name more

unfoldable pub fault_said : List ℕ → List ℕ
fault_said name = said_in name (map without_terminator (lines_of FAULTS))

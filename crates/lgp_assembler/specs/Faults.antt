-- Part of the public promise: the faults of a source. This project's own choice.
use Rattle.std.specs.Prelude.{ℕ, ◌+◌, ◌&&◌, ◌||◌, not, nat_lt, nat_le, Bool, true, false}
use Rattle.std.specs.Prelude.{if◌then◌else◌, find, List, [], ◌∷◌, ◌++◌, length, Option}
use Rattle.std.specs.Prelude.{Ok, Err, is_some, is_none, option_map, option_to_list}
use Rattle.std.specs.Option.{option_map_or}
use Rattle.std.specs.Str.{bytes_eq}
use Rattle.std.specs.Map.{lookup}
use Rattle.lgp_assembler.specs.declared.operands.Meaning.TheVariants.{Nothing}
use Rattle.lgp_assembler.specs.declared.operands.OperandFault.TheVariants.{Misformed, Unknown}
use Rattle.lgp_assembler.specs.declared.operands.OperandFault.TheVariants.{Outside}
use Rattle.lgp_assembler.specs.declared.refusal.Fault.{Fault}
use Rattle.lgp_assembler.specs.declared.refusal.FaultKind.{FaultKind}
use Rattle.lgp_assembler.specs.declared.refusal.FaultKind.TheVariants.{BadByte, AfterEnd, Extra}
use Rattle.lgp_assembler.specs.declared.refusal.FaultKind.TheVariants.{BadLabel, LabelTwice}
use Rattle.lgp_assembler.specs.declared.refusal.FaultKind.TheVariants.{UnknownOrder, MissingOperand}
use Rattle.lgp_assembler.specs.declared.refusal.FaultKind.TheVariants.{BadOperand, UnknownName}
use Rattle.lgp_assembler.specs.declared.refusal.FaultKind.TheVariants.{OutOfRange, PastEnd}
use Rattle.lgp_assembler.specs.declared.refusal.FaultKind.TheVariants.{InLoader, PlaceTaken, NoEnd}
use Rattle.lgp_assembler.specs.Operations.{least_operands, most_operands}
use Rattle.lgp_assembler.specs.AddressOperands.{is_name}
use Rattle.lgp_assembler.specs.Operands.{MeaningOrFault, meaning_of}
use Rattle.lgp_assembler.specs.Fields.{LineFields}
use Rattle.lgp_word.specs.Drum.{drum_size}
use Rattle.lgp_assembler.specs.Parts.{NameList, is_loaders}
use Rattle.lgp_assembler.specs.Places.{has_word, place_of, has_ended, names_of, is_taken}

-- ---- the conditions of the table

-- a label or an operation
abbrev pub says_something : LineFields → Bool
says_something line = is_some line.label || line.has_operation

abbrev pub is_bad_label : Option (List ℕ) → Bool
is_bad_label label = option_map_or (λ name. not (is_name name)) label false

-- a line before it that counts has the same label
abbrev pub is_label_again : Option (List ℕ) → NameList → Bool
is_label_again label names =
    option_map_or (λ name. is_some (lookup (bytes_eq name) names)) label false

abbrev pub is_misformed : MeaningOrFault → Bool
is_misformed (Err Misformed) = true
is_misformed _ = false

abbrev pub is_unknown : MeaningOrFault → Bool
is_unknown (Err Unknown) = true
is_unknown _ = false

abbrev pub is_out_of_range : MeaningOrFault → Bool
is_out_of_range (Err Outside) = true
is_out_of_range _ = false

-- what the operands of a line stand for in its place, with the names of the whole source; with no
-- operation, nothing
abbrev pub line_meaning : NameList → ℕ → LineFields → MeaningOrFault
line_meaning names place line =
    option_map_or (λ operation. meaning_of names place operation line.first line.second)
    line.operation (Ok Nothing)

-- ---- the table of faults

-- what is known of a line where it is
pub record LineFacts : Type 0 where
  pub line : LineFields
  pub place : ℕ
  -- what its operands stand for there
  pub meaning : MeaningOrFault
  -- whether the end line is before it
  pub is_after_end : Bool
  -- the names of the lines before it
  pub names : NameList
  -- whether a word of theirs lies at its place
  pub is_place_taken : Bool

-- the conditions in order, each with its kind; a line may have two operands where its operation is
-- unknown
abbrev pub fault_rows : LineFacts → List (Bool × FaultKind)
fault_rows known =
    (known.line.is_bad, BadByte)
    ∷ (known.is_after_end && says_something known.line, AfterEnd)
    ∷ (nat_lt (option_map_or most_operands known.line.operation 2) known.line.count, Extra)
    ∷ (is_bad_label known.line.label, BadLabel)
    ∷ (is_label_again known.line.label known.names, LabelTwice)
    ∷ (known.line.has_operation && is_none known.line.operation, UnknownOrder)
    ∷ (
      nat_lt known.line.count (option_map_or least_operands known.line.operation 0),
      MissingOperand,
    )
    ∷ (is_misformed known.meaning, BadOperand)
    ∷ (is_unknown known.meaning, UnknownName)
    ∷ (is_out_of_range known.meaning, OutOfRange)
    ∷ (has_word known.line && nat_le drum_size known.place, PastEnd)
    ∷ (has_word known.line && is_loaders known.place, InLoader)
    ∷ (has_word known.line && known.is_place_taken, PlaceTaken)
    ∷ []

-- the kind of the first row whose condition holds
abbrev pub first_kind : List (Bool × FaultKind) → Option FaultKind
first_kind rows = option_map (λ row. row.1) (find (λ row. row.0) rows)

-- what is known of a line after those before it, with the names of the whole source
abbrev pub facts_of : NameList → LineFields → List LineFields → LineFacts
facts_of names line earlier = let place = place_of line earlier in record {
  line = line;
  place = place;
  meaning = line_meaning names place line;
  is_after_end = has_ended earlier;
  names = names_of earlier;
  is_place_taken = is_taken place earlier;
}

-- the fault of a line after those before it: the kind of the first row that holds
unfoldable pub fault_of : NameList → LineFields → List LineFields → Option FaultKind
fault_of names line earlier = first_kind (fault_rows (facts_of names line earlier))

abbrev pub numbered_fault : ℕ → FaultKind → Fault
numbered_fault number kind = record { line = number; kind = kind }

-- the faults of some lines, the nearest first, in order of the lines
unfoldable pub faults_in : NameList → List LineFields → List Fault
faults_in names [] = []
faults_in names (line ∷ earlier) =
    faults_in names earlier
    ++ option_to_list (option_map (numbered_fault line.number) (fault_of names line earlier))

-- a source without an end line has a fault past its last line
abbrev pub end_fault : Bool → ℕ → List Fault
end_fault ended lines = if ended then [] else numbered_fault (lines + 1) NoEnd ∷ []

abbrev pub missing_end : List LineFields → List Fault
missing_end lines = end_fault (has_ended lines) (length lines)

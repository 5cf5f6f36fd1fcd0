-- Part of the public promise: what is known of each line of a source, also while the source has
-- faults. This project's own choice.
use Rattle.std.specs.Prelude.{ℕ, ◌==◌, ◌&&◌, ◌||◌, nat_lt, Bool, true, false, if◌then◌else◌, List}
use Rattle.std.specs.Prelude.{[], ◌∷◌, ◌++◌, take, Option, None, Some, Ok, is_some}
use Rattle.std.specs.Prelude.{option_and_then, option_to_list}
use Rattle.std.specs.List.{position_or_len}
use Rattle.std.specs.Map.{lookup}
use Rattle.std.specs.Str.{bytes_eq}
use Rattle.lgp_word.specs.Drum.{drum_size}
use Rattle.lgp_assembler.specs.declared.operands.Meaning.TheVariants.{Cell}
use Rattle.lgp_assembler.specs.declared.operations.Operation.{Operation}
use Rattle.lgp_assembler.specs.declared.operations.Operation.TheVariants.{Order, MinusT, End}
use Rattle.lgp_assembler.specs.declared.refusal.FaultKind.{FaultKind}
use Rattle.lgp_assembler.specs.declared.refusal.FaultKind.TheVariants.{NoEnd}
use Rattle.lgp_assembler.specs.declared.surveying.LineSurvey.{LineSurvey}
use Rattle.lgp_assembler.specs.AddressOperands.{is_name, is_sign}
use Rattle.lgp_assembler.specs.Faults.{fault_of, line_meaning}
use Rattle.lgp_assembler.specs.Fields.{LineFields}
use Rattle.lgp_assembler.specs.Image.{all_lines}
use Rattle.lgp_assembler.specs.Operands.{MeaningOrFault}
use Rattle.lgp_assembler.specs.Parts.{NameList}
use Rattle.lgp_assembler.specs.Places.{has_ended, has_word, names_of, new_label, place_of}

-- ---- names and their lines

-- the names of some lines in order of the lines, each with the number of the first line that counts
-- with that label
unfoldable pub declared_in : List LineFields → NameList
declared_in [] = []
declared_in (line ∷ earlier) =
    let names = declared_in earlier in
    names ++ option_to_list (new_label line.label line.number (has_ended earlier) names)

-- whether the operand of an operation is an address
abbrev pub takes_address : Operation → Bool
takes_address (Order op) = true
takes_address MinusT = true
takes_address End = true
takes_address _ = false

-- the name in an address operand: what stands before its sign
abbrev pub name_in : Operation → List ℕ → Option (List ℕ)
name_in operation text =
    let base = take (position_or_len is_sign text) text in
    if takes_address operation && is_name base then Some base else None

-- the name in the operand of a line
abbrev pub operand_name : Option Operation → Option (List ℕ) → Option (List ℕ)
operand_name (Some operation) (Some text) = name_in operation text
operand_name _ _ = None

-- the line that has a name as its label
abbrev pub line_of_name : NameList → Option (List ℕ) → Option ℕ
line_of_name declared name = option_and_then (λ it. lookup (bytes_eq it) declared) name

-- a line, where it is not the one of this number
abbrev pub other_than : ℕ → Option ℕ → Option ℕ
other_than number None = None
other_than number (Some line) = if line == number then None else Some line

-- ---- a line

-- where the word of a line lies, or what its label names, if that is on the drum
abbrev pub place_shown : LineFields → ℕ → Option ℕ
place_shown line place =
    if (is_some line.label || has_word line) && nat_lt place drum_size then Some place else None

-- the word that operands stand for
abbrev pub word_meant : MeaningOrFault → Option ℕ
word_meant (Ok (Cell word)) = Some word
word_meant _ = None

-- the word of a line; one with a fault has none
abbrev pub word_shown : Option FaultKind → MeaningOrFault → Option ℕ
word_shown None meaning = word_meant meaning
word_shown (Some kind) meaning = None

-- a line with its place, with what its operands stand for there, and with its fault
unfoldable pub survey_at : NameList → LineFields → ℕ → MeaningOrFault → Option FaultKind
    → LineSurvey
survey_at declared line place meaning fault = record {
  place = place_shown line place;
  word = word_shown fault meaning;
  fault = fault;
  declared = line_of_name declared (operand_name line.operation line.first);
  first = other_than line.number (line_of_name declared line.label);
}

-- ---- a source

-- a line after those before it, the nearest first, with the names of the whole source
abbrev pub surveyed : NameList → NameList → List LineFields → LineFields → LineSurvey
surveyed names declared earlier line =
    let place = place_of line earlier in
    survey_at declared line place (line_meaning names place line) (fault_of names line earlier)

-- some lines, the nearest first, in order of the lines
unfoldable pub survey_in : NameList → NameList → List LineFields → List LineSurvey
survey_in names declared [] = []
survey_in names declared (line ∷ earlier) =
    survey_in names declared earlier ++ surveyed names declared earlier line ∷ []

-- what is known of the line that is missing where a source has no end line
abbrev pub missing_line : LineSurvey
missing_line =
    record { place = None; word = None; fault = Some NoEnd; declared = None; first = None }

abbrev pub end_survey : Bool → List LineSurvey
end_survey ended = if ended then [] else missing_line ∷ []

-- the lines of a source; where it has no end line, that line comes last
unfoldable pub survey_of : List ℕ → List LineSurvey
survey_of source =
    let lines = all_lines source in
    survey_in (names_of lines) (declared_in lines) lines ++ end_survey (has_ended lines)

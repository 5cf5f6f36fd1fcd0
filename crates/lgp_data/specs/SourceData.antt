-- Part of the public promise: the lines of a source as records, also while the source has faults.
use Rattle.std.specs.Prelude.{ℕ, ◌+◌, ◌++◌, ◌==◌, nat_lt, if◌then◌else◌, Option, None, Some}
use Rattle.std.specs.Prelude.{List, [], ◌∷◌, codes, drop, length, option_and_then}
use Rattle.std.specs.Option.{option_map_or}
use Rattle.lgp_word.specs.Digits.{digits_of}
use Rattle.lgp_source.specs.Source.{SourceLine, SourceToken, before_comment, lines_of}
use Rattle.lgp_assembler.specs.KindNames.{kind_name}
use Rattle.lgp_assembler.specs.Marks.{part_of}
use Rattle.lgp_assembler.specs.Survey.{survey_of}
use Rattle.lgp_assembler.specs.declared.refusal.FaultKind.{FaultKind}
use Rattle.lgp_assembler.specs.declared.refusal.FaultKind.TheVariants.{AfterEnd}
use Rattle.lgp_assembler.specs.declared.surveying.LineSurvey.{LineSurvey}
use Rattle.lgp_fields.specs.Plain.{Plain, PlainField, field, Nothing, Number, Numbers, Text}
use Rattle.lgp_fields.specs.Printed.{record_in}
use Rattle.lgp_fields.specs.declared.records.RecordForm.{RecordForm}
use Rattle.lgp_data.specs.Words.{place_value}

-- ---- columns, in bytes from 0: where something begins, and where it has ended

abbrev pub span_value : Option SourceToken → Plain
span_value token = option_map_or (λ it. Numbers (it.first ∷ it.past ∷ [])) token Nothing

-- one operand or two
abbrev pub spans_value : List (Option SourceToken) → Plain
spans_value (Some one ∷ Some two ∷ more) =
    Numbers (one.first ∷ one.past ∷ two.first ∷ two.past ∷ [])
spans_value (first ∷ more) = span_value first
spans_value [] = Nothing

abbrev pub comment_value : List ℕ → Plain
comment_value text =
    let first = length (before_comment text) in
    if nat_lt first (length text) then Numbers (first ∷ length text ∷ []) else Nothing

abbrev pub part_value : Option (ℕ × ℕ) → Plain
part_value part = option_map_or (λ it. Numbers (it.0 ∷ it.1 ∷ [])) part Nothing

-- ---- what is known of a line

abbrev pub number_value : Option ℕ → Plain
number_value number = option_map_or Number number Nothing

abbrev pub digits_value : Option ℕ → Plain
digits_value word = option_map_or (λ it. Text (digits_of it)) word Nothing

abbrev pub fault_value : Option FaultKind → Plain
fault_value fault = option_map_or (λ kind. Text (kind_name kind)) fault Nothing

-- the place of a line's word or label: a line after the end line has no word, and its label names
-- nothing
abbrev pub place_told : Option FaultKind → Option ℕ → Option ℕ
place_told (Some AfterEnd) place = None
place_told fault place = place

-- the columns of what is at fault
abbrev pub fault_part : Option FaultKind → SourceLine → Option (ℕ × ℕ)
fault_part fault line = option_and_then (λ kind. part_of kind line) fault

unfoldable pub line_record : SourceLine → LineSurvey → List PlainField
line_record line known =
    field (codes "line") (Number line.number)
    ∷ field (codes "label") (span_value line.label)
    ∷ field (codes "operation") (span_value line.operation)
    ∷ field (codes "operands") (spans_value line.operands)
    ∷ field (codes "comment") (comment_value line.text)
    ∷ field (codes "declared") (number_value known.declared)
    ∷ field (codes "place") (place_value (place_told known.fault known.place))
    ∷ field (codes "digits") (digits_value known.word)
    ∷ field (codes "fault") (fault_value known.fault)
    ∷ field (codes "at") (part_value (fault_part known.fault line))
    ∷ field (codes "first") (number_value known.first)
    ∷ []

-- a line that is missing: its number and its fault
unfoldable pub missing_record : ℕ → LineSurvey → List PlainField
missing_record number known =
    field (codes "line") (Number number) ∷ field (codes "fault") (fault_value known.fault) ∷ []

-- ---- a source

-- the next of some lines, or one that is missing
abbrev pub next_record : ℕ → List SourceLine → LineSurvey → List PlainField
next_record number [] known = missing_record number known
next_record number (line ∷ lines) known = line_record line known

-- lines from a number on, with what is known of each
unfoldable pub source_lines_in : RecordForm → ℕ → List SourceLine → List LineSurvey → List ℕ
source_lines_in form number lines [] = []
source_lines_in form number lines (known ∷ more) =
    record_in form (next_record number lines known)
    ++ source_lines_in form (number + 1) (drop 1 lines) more

-- a source: its lines, and the one that is missing where it has no end line
unfoldable pub source_in : RecordForm → List ℕ → List ℕ
source_in form source = source_lines_in form 1 (lines_of source) (survey_of source)

-- Part of the public promise: words, labels, rules, printed codes and the tape as records.
use Rattle.std.specs.Prelude.{ℕ, zero, suc, ◌+◌, ◌++◌, Bool, if◌then◌else◌}
use Rattle.std.specs.Prelude.{nat_lt, is_some, List, [], ◌∷◌, codes, drop, Some}
use Rattle.std.specs.Option.{option_map_or}
use Rattle.lgp_word.specs.Digits.{address_digits, digits_of}
use Rattle.lgp_assembler.specs.Image.{all_lines}
use Rattle.lgp_assembler.specs.Parts.{NameList}
use Rattle.lgp_assembler.specs.Survey.{declared_in, line_of_name}
use Rattle.lgp_fraction.specs.Arithmetic.{half}
use Rattle.lgp_fraction.specs.Decimal.{decimal_text}
use Rattle.lgp_flexo.specs.Code.{sign_at}
use Rattle.lgp_flexo.specs.Tape.{Tape}
use Rattle.lgp_flexo.specs.TapeText.{written_tape}
use Rattle.lgp_history.specs.Origins.{latest_change}
use Rattle.lgp_history.specs.declared.rule.Rule.{Rule}
use Rattle.lgp_history.specs.declared.rule.Rule.TheVariants.{At, Changed}
use Rattle.lgp_table.specs.State.{word_at}
use Rattle.lgp_debugger.specs.Debugging.{Debugging}
use Rattle.lgp_fields.specs.Plain.{Plain, PlainField, field, Nothing, Number, Text, YesNo}
use Rattle.lgp_fields.specs.Printed.{record_in}
use Rattle.lgp_fields.specs.declared.records.RecordForm.{RecordForm}
use Rattle.lgp_data.specs.Words.{name_of, whole_number, word_order}

-- ---- words

-- a word with its address: by its digits, as the order that it is, and as a whole number
unfoldable pub word_fields : List (List ℕ × ℕ) → ℕ → ℕ → List PlainField
word_fields names address word =
    field (codes "address") (Text (address_digits address))
    ∷ field (codes "label") (name_of names address)
    ∷ field (codes "digits") (Text (digits_of word))
    ∷ field (codes "order") (word_order word)
    ∷ field (codes "number") (whole_number word)
    ∷ []

-- those fields, the word as a fraction, and whether a kept step changed it
unfoldable pub shown_record : List PlainField → List ℕ → Bool → List PlainField
shown_record word fraction changed =
    word ++ (field (codes "fraction") (Text fraction)
    ∷ field (codes "changed") (YesNo changed) ∷ [])

-- the same of a debugger's drum
unfoldable pub shown_of : List (List ℕ × ℕ) → Debugging → ℕ → List PlainField
shown_of names d address =
    let word = word_at d.state.core address in
    shown_record (word_fields names address word) (decimal_text (half word))
    (is_some (latest_change address d.steps))

-- the records of a given number of words from an address on
unfoldable pub shown_in : RecordForm → List (List ℕ × ℕ) → Debugging → ℕ → ℕ → List ℕ
shown_in form names d address zero = []
shown_in form names d address (suc count) =
    shown_in form names d address count
    ++ record_in form (shown_of names d (address + count))

-- ---- labels

-- a name, the place that is its value, none after the drum's last, and its line by the names with
-- their lines
unfoldable pub label_record : NameList → List ℕ × ℕ → List PlainField
label_record declared symbol =
    field (codes "name") (Text symbol.0)
    ∷ field (codes "place")
    (if nat_lt symbol.1 4096 then Text (address_digits symbol.1) else Nothing)
    ∷ field (codes "line") (option_map_or Number (line_of_name declared (Some symbol.0)) Nothing)
    ∷ []

unfoldable pub labels_listed : RecordForm → NameList → List (List ℕ × ℕ) → List ℕ
labels_listed form declared [] = []
labels_listed form declared (symbol ∷ more) =
    record_in form (label_record declared symbol) ++ labels_listed form declared more

-- the names of a source
unfoldable pub labels_in : RecordForm → List ℕ → List (List ℕ × ℕ) → List ℕ
labels_in form source symbols = labels_listed form (declared_in (all_lines source)) symbols

-- ---- rules

-- the command that makes a rule, and its address
abbrev pub rule_kind : Rule → List ℕ
rule_kind (At address) = codes "break"
rule_kind (Changed address) = codes "watch"

abbrev pub rule_place : Rule → ℕ
rule_place (At address) = address
rule_place (Changed address) = address

unfoldable pub rule_record : List (List ℕ × ℕ) → ℕ → Rule → List PlainField
rule_record names number rule =
    field (codes "rule") (Number number)
    ∷ field (codes "kind") (Text (rule_kind rule))
    ∷ field (codes "address") (Text (address_digits (rule_place rule)))
    ∷ field (codes "label") (name_of names (rule_place rule))
    ∷ []

-- rules whose first has this number
unfoldable pub rules_in : RecordForm → List (List ℕ × ℕ) → ℕ → List Rule → List ℕ
rules_in form names number [] = []
rules_in form names number (rule ∷ more) =
    record_in form (rule_record names number rule)
    ++ rules_in form names (number + 1) more

-- ---- what was printed

-- the sign of a code, if it has one
abbrev pub sign_value : ℕ → Plain
sign_value code = option_map_or (λ sign. Text (sign ∷ [])) (sign_at code) Nothing

-- a code, and how many were printed before it
unfoldable pub code_record : ℕ → ℕ → List PlainField
code_record number code =
    field (codes "printed") (Number number)
    ∷ field (codes "code") (Number code)
    ∷ field (codes "sign") (sign_value code)
    ∷ []

-- codes, before whose first a given number were printed
unfoldable pub codes_in : RecordForm → ℕ → List ℕ → List ℕ
codes_in form number [] = []
codes_in form number (code ∷ more) =
    record_in form (code_record number code) ++ codes_in form (number + 1) more

-- those after the first ones
unfoldable pub printed_in : RecordForm → ℕ → List ℕ → List ℕ
printed_in form from printed = codes_in form from (drop from printed)

-- ---- the tape

abbrev pub tape_texts : List ℕ → List ℕ → List PlainField
tape_texts passed left =
    field (codes "passed") (Text passed) ∷ field (codes "left") (Text left) ∷ []

-- the codes of the tape that have passed the reader, and those that are left, as tape text
unfoldable pub tape_record : Tape → List PlainField
tape_record tape = tape_texts (written_tape tape.passed) (written_tape tape.left)

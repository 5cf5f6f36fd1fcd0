-- Part of the public promise. The two forms of a record for programs: as lines, each a key, a blank
-- and a value, and as an object of JSON on a line of its own. A field without a value has no line,
-- and `null` in JSON.
use Rattle.std.specs.Prelude.{ℕ, ◌++◌, Bool, true, false, if◌then◌else◌, List, [], ◌∷◌, codes}
use Rattle.std.specs.Prelude.{decimal, flat_map, nat_lt}
use Rattle.lgp_fields.specs.Escaped.{escaped}
use Rattle.lgp_fields.specs.Plain.{Plain, PlainField, Nothing, Number, Signed, YesNo, Numbers, Text}
use Rattle.lgp_fields.specs.declared.records.RecordForm.{RecordForm}
use Rattle.lgp_fields.specs.declared.records.RecordForm.TheVariants as forms

-- what is in front of an item of a list: nothing in front of the first
abbrev pub separated : Bool → List ℕ → List ℕ
separated first separator = if first then [] else separator

-- a number with its sign
unfoldable pub signed_text : Bool → ℕ → List ℕ
signed_text minus size = (if minus then codes "-" else []) ++ decimal size

-- numbers written so, with this in front of each but the first
unfoldable pub numbers_text : (ℕ → List ℕ) → List ℕ → Bool → List ℕ → List ℕ
numbers_text written separator first [] = []
numbers_text written separator first (number ∷ more) =
    separated first separator ++ (written number ++ numbers_text written separator false more)

-- ---- lines

-- a value in a line; a text has its bytes escaped, so it is one line
unfoldable pub value_text : Plain → List ℕ
value_text Nothing = []
value_text (Number number) = decimal number
value_text (Signed minus size) = signed_text minus size
value_text (YesNo holds) = if holds then codes "yes" else codes "no"
value_text (Numbers numbers) = numbers_text decimal (codes " ") true numbers
value_text (Text text) = escaped text

abbrev pub keyed_line : List ℕ → Plain → List ℕ
keyed_line key Nothing = []
keyed_line key value = key ++ (codes " " ++ (value_text value ++ codes "\n"))

unfoldable pub field_line : PlainField → List ℕ
field_line field = keyed_line field.key field.value

unfoldable pub record_lines : List PlainField → List ℕ
record_lines fields = flat_map field_line fields

-- ---- objects of JSON

-- a number: from 2^53 on it is a string, since many readers keep no larger ones exactly
unfoldable pub number_json : ℕ → List ℕ
number_json number =
    if nat_lt number 9007199254740992
    then decimal number else codes "\"" ++ (decimal number ++ codes "\"")

unfoldable pub value_json : Plain → List ℕ
value_json Nothing = codes "null"
value_json (Number number) = number_json number
value_json (Signed minus size) = signed_text minus size
value_json (YesNo holds) = if holds then codes "true" else codes "false"
value_json (Numbers numbers) =
    codes "[" ++ (numbers_text number_json (codes ",") true numbers ++ codes "]")
value_json (Text text) = codes "\"" ++ (escaped text ++ codes "\"")

unfoldable pub field_json : PlainField → List ℕ
field_json field =
    codes "\"" ++ (escaped field.key ++ (codes "\":" ++ value_json field.value))

-- fields, with a comma in front of each but the first
unfoldable pub fields_json : Bool → List PlainField → List ℕ
fields_json first [] = []
fields_json first (field ∷ more) =
    separated first (codes ",") ++ (field_json field ++ fields_json false more)

unfoldable pub record_json : List PlainField → List ℕ
record_json fields = codes "{" ++ (fields_json true fields ++ codes "}")

-- ---- records

-- a record in a form: a line for each field that has a value, or an object on a line of its own
unfoldable pub record_in : RecordForm → List PlainField → List ℕ
record_in forms.Lines fields = record_lines fields
record_in forms.Objects fields = record_json fields ++ codes "\n"

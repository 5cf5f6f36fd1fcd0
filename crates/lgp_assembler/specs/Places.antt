-- Part of the public promise: places and names. Each definition goes over the lines before a line,
-- the nearest first. This project's own choice.
use Rattle.std.specs.Prelude.{ℕ, ◌+◌, ◌==◌, ◌&&◌, ◌||◌, Bool, true, false, if◌then◌else◌, List, []}
use Rattle.std.specs.Prelude.{◌∷◌, ◌++◌, Option, None, Some, is_some, unwrap_or, option_and_then}
use Rattle.std.specs.Prelude.{option_to_list}
use Rattle.std.specs.List.{list_any}
use Rattle.std.specs.Option.{option_map_or}
use Rattle.std.specs.Str.{bytes_eq}
use Rattle.std.specs.Map.{lookup}
use Rattle.lgp_word.specs.Digits.{address_text}
use Rattle.lgp_assembler.specs.declared.operations.Operation.{Operation}
use Rattle.lgp_assembler.specs.declared.operations.Operation.TheVariants.{Org, End}
use Rattle.lgp_assembler.specs.Operations.{makes_word}
use Rattle.lgp_assembler.specs.Fields.{LineFields}
use Rattle.lgp_assembler.specs.Parts.{NameList}

-- whether the operation of a line makes a word, whatever else is wrong with the line. Of a line
-- after the end line that has an operation it is reported that it is there, and nothing else is
-- asked of it
abbrev pub has_word : LineFields → Bool
has_word line = option_map_or makes_word line.operation false

abbrev pub word_count : LineFields → ℕ
word_count line = if has_word line then 1 else 0

-- the address that an `org` line with an address names
abbrev pub org_address : Option Operation → Option (List ℕ) → Option ℕ
org_address (Some Org) first = option_and_then address_text first
org_address _ first = None

abbrev pub org_of : LineFields → Option ℕ
org_of line = org_address line.operation line.first

-- the place of a line, where the lines before it lead to a place: the address of its `org`, or else
-- that place
abbrev pub place_reached : LineFields → ℕ → ℕ
place_reached line place = unwrap_or (org_of line) place

-- the place that some lines lead to: the place of the nearest, plus its words
unfoldable pub next_place : List LineFields → ℕ
next_place [] = 0
next_place (line ∷ earlier) = place_reached line (next_place earlier) + word_count line

-- the place of a line after those before it
abbrev pub place_of : LineFields → List LineFields → ℕ
place_of line earlier = place_reached line (next_place earlier)

-- whether a line is an end line
abbrev pub is_end : Option Operation → Bool
is_end (Some End) = true
is_end _ = false

-- whether the end line is among some lines: lines after it do not count
unfoldable pub has_ended : List LineFields → Bool
has_ended lines = list_any (λ line. is_end line.operation) lines

-- a label with its place, where no line before it that counts has the same label
abbrev pub new_label : Option (List ℕ) → ℕ → Bool → NameList → Option (List ℕ × ℕ)
new_label None place ended names = None
new_label (Some label) place ended names =
    if ended || is_some (lookup (bytes_eq label) names) then None else Some (label, place)

-- the names of some lines in order of the lines, each with its value: the place of the first line
-- that counts with that label
unfoldable pub names_of : List LineFields → NameList
names_of [] = []
names_of (line ∷ earlier) =
    let names = names_of earlier in
    names ++ option_to_list (new_label line.label (place_of line earlier) (has_ended earlier) names)

-- whether a line of one word lies at a place
unfoldable pub is_taken : ℕ → List LineFields → Bool
is_taken place [] = false
is_taken place (line ∷ earlier) =
    (has_word line && place_of line earlier == place) || is_taken place earlier

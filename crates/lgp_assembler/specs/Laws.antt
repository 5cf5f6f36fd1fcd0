-- Part of the public promise: what places, names and cells are, in the words of the source
-- language. The lines are here in the order of the source.
use Rattle.std.specs.Prelude.{◌≡◌, ◌≢◌, ◌⊎◌, ◌↔◌, ℕ, ◌+◌, true, false, List, [], ◌∷◌, ◌++◌, length}
use Rattle.std.specs.Prelude.{map, Option, None, Some, Ok, option_map, option_to_list}
use Rattle.std.specs.List.{All}
use Rattle.std.specs.Str.{bytes_eq}
use Rattle.std.specs.Map.{lookup}
use Rattle.lgp_source.specs.Source.{lines_of}
use Rattle.lgp_assembler.specs.Fields.{LineFields, fields_of}
use Rattle.lgp_assembler.specs.Places.{org_of, has_word, word_count, place_of, has_ended}
use Rattle.lgp_assembler.specs.Places.{names_of}
use Rattle.lgp_assembler.specs.declared.refusal.Fault.{Fault}
use Rattle.lgp_assembler.specs.declared.refusal.FaultKind.{FaultKind}
use Rattle.lgp_assembler.specs.Faults.{LineFacts, facts_of, fault_rows, first_kind, fault_of}
use Rattle.lgp_assembler.specs.Faults.{faults_in, line_meaning, missing_end, numbered_fault}
use Rattle.lgp_assembler.specs.Operands.{MeaningOrFault}
use Rattle.lgp_assembler.specs.declared.operands.Meaning.TheVariants.{Cell}
use Rattle.lgp_assembler.specs.Image.{faults_of, image_of, passed_lines}

abbrev pub HasNoOrg : List LineFields → Type 0
HasNoOrg lines = All (λ line. org_of line ≡ None) lines

-- the words of some lines
abbrev pub word_total : List LineFields → ℕ
word_total [] = 0
word_total (line ∷ lines) = word_count line + word_total lines

-- the place of a line after those before it
abbrev pub place_after : List LineFields → LineFields → ℕ
place_after before line = place_of line (passed_lines [] before)

-- the place of an `org` line with an address is that address; that of any other line is the address
-- of the nearest such line before it plus the words of the lines between, or, with none, the words
-- of the lines before it
pub record PlacesCountFromOrgs (before : List LineFields) (line : LineFields) : Type 0 where
  pub own : (address : ℕ) → org_of line ≡ Some address → place_after before line ≡ address
  pub nearest : (between : List LineFields) (org : LineFields) (address : ℕ)
      → org_of org ≡ Some address → HasNoOrg between → org_of line ≡ None
      → place_after (before ++ org ∷ between) line ≡ address + word_total between
  pub none : HasNoOrg before → org_of line ≡ None → place_after before line ≡ word_total before

abbrev pub HasNotLabel : List ℕ → List LineFields → Type 0
HasNotLabel name lines = All (λ line. line.label ≢ Some name) lines

-- the value of a name in some lines
abbrev pub value_in : List LineFields → List ℕ → Option ℕ
value_in lines name = lookup (bytes_eq name) (names_of (passed_lines [] lines))

-- a name's value is the place of the first line with that label that is not after the end line;
-- with no such line it has none
pub record NamesAreFirstPlaces (name : List ℕ) (before after : List LineFields) : Type 0 where
  pub first : (line : LineFields)
      → has_ended before ≡ false → HasNotLabel name before → line.label ≡ Some name
      → value_in (before ++ line ∷ after) name ≡ Some (place_after before line)
  pub none : HasNotLabel name before → (has_ended before ≡ true) ⊎ (after ≡ [])
      → value_in (before ++ after) name ≡ None

-- the lines of a source
abbrev pub lines_in : List ℕ → List LineFields
lines_in source = map fields_of (lines_of source)

-- what is known of a line after some others, with the names of the whole source; and its fault
abbrev pub facts_after : List ℕ → List LineFields → LineFields → LineFacts
facts_after source before line = facts_of (image_of source).symbols line (passed_lines [] before)

abbrev pub fault_after : List ℕ → List LineFields → LineFields → Option FaultKind
fault_after source before line = fault_of (image_of source).symbols line (passed_lines [] before)

-- the faults of the first lines of a source
abbrev pub first_faults : List ℕ → List LineFields → List Fault
first_faults source before = faults_in (image_of source).symbols (passed_lines [] before)

-- one of some lines has a word, at this place
pub record HasWordAt (lines : List LineFields) (place : ℕ) : Type 0 where
  pub before : List LineFields
  pub line : LineFields
  pub after : List LineFields
  pub lines_are : lines ≡ before ++ line ∷ after
  pub makes_word : has_word line ≡ true
  pub there : place_after before line ≡ place

-- the faults of a source, line by line: no lines have none; a line after some others adds its own
-- fault to theirs, if it has one; and the faults of the source are those of all its lines, and
-- after them that of a missing end line. The fault of a line is that of the first row of the table
-- that holds; whether an end line is before it is asked of the lines before it, and its place
-- is taken where one of them has a word there
pub record FaultsFollowLines (source : List ℕ) (before : List LineFields) (line : LineFields)
    : Type 0 where
  pub none : first_faults source [] ≡ []
  pub more : first_faults source (before ++ line ∷ []) ≡ first_faults source before
      ++ option_to_list (option_map (numbered_fault line.number) (fault_after source before line))
  pub all : faults_of source
      ≡ first_faults source (lines_in source) ++ missing_end (lines_in source)
  pub first_row : fault_after source before line
      ≡ first_kind (fault_rows (facts_after source before line))
  pub past_end : (facts_after source before line).is_after_end ≡ has_ended before
  pub place_taken : ((facts_after source before line).is_place_taken ≡ true)
      ↔ HasWordAt before (place_after before line)

-- what a line after some others means, with the names of the whole source
abbrev pub meaning_after : List ℕ → List LineFields → LineFields → MeaningOrFault
meaning_after source before line =
    line_meaning (image_of source).symbols (place_after before line) line

-- among some cells, after a given number of others, the cell of this word at this place
abbrev pub HasCellAt : List (ℕ × ℕ) → ℕ → ℕ → ℕ → Type 0
HasCellAt cells place word others =
    (front : List (ℕ × ℕ)) × (rest : List (ℕ × ℕ))
    × (cells ≡ front ++ (place, word) ∷ rest) × (length front ≡ others)

-- a line after some others, in a source, has its cell: the word that the line means, at the line's
-- place, and after the cells of the lines before it
abbrev pub HasItsCell : List ℕ → List LineFields → LineFields → Type 0
HasItsCell source before line =
    (word : ℕ) × (meaning_after source before line ≡ Ok (Cell word))
    × HasCellAt (image_of source).cells (place_after before line) word (word_total before)

-- what holds of a source without faults: each line with a word has its cell, and there are as many
-- cells as such lines
pub record LinesHaveCells (source : List ℕ) : Type 0 where
  pub each : (before after : List LineFields) (line : LineFields)
      → lines_in source ≡ before ++ line ∷ after → has_word line ≡ true
      → HasItsCell source before line
  pub count : length (image_of source).cells ≡ word_total (lines_in source)

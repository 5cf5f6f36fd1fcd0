-- Serves proofs only: what the assembler keeps of the lines that it has passed, the nearest first.
use Rattle.std.specs.Prelude.{◌≡◌, ℕ, ◌<◌, ◌≤◌, Bool, false, List, length, slice_index_or}
use Rattle.std.specs.Prelude.{[], Option, Ok, IfSome, option_map}
use Rattle.lgp_assembler.specs.declared.operands.Meaning.TheVariants.{Cell}
use Rattle.lgp_assembler.specs.declared.refusal.Fault.{Fault}
use Rattle.lgp_assembler.specs.declared.refusal.FaultKind.{FaultKind}
use Rattle.lgp_assembler.specs.Fields.{LineFields}
use Rattle.lgp_word.specs.Drum.{drum_size}
use Rattle.lgp_assembler.specs.Parts.{AreProgramCells, NameList}
use Rattle.lgp_assembler.specs.Operands.{MeaningOrFault}
use Rattle.lgp_assembler.specs.Faults.{fault_rows, first_kind, faults_in}
use Rattle.lgp_assembler.specs.Image.{cells_in, start_in}
use Rattle.lgp_assembler.specs.Places.{next_place, has_ended, names_of, is_taken}

-- what is kept of some lines: how many they are, the place that they lead to, whether an end line
-- is among them, and their names
pub record Stands (lines place : ℕ) (ended : Bool) (names : NameList)
    (earlier : List LineFields) : Type 0 where
  pub lines_are : lines ≡ length earlier
  pub place_is : place ≡ next_place earlier
  pub ended_is : ended ≡ has_ended earlier
  pub names_are : names ≡ names_of earlier

-- whether each place of the drum is taken: words of the lines lie there
pub record ArePlacesTaken (taken : List Bool) (earlier : List LineFields) : Type 0 where
  pub length_is : length taken ≡ drum_size
  pub places_are : (p : ℕ) → p < drum_size → slice_index_or taken p false ≡ is_taken p earlier

-- the table of a line by what the program has found of it
abbrev pub rows : LineFields → MeaningOrFault → ℕ → Bool → NameList → Bool
    → List (Bool × FaultKind)
rows line meaning place ended names taken = fault_rows (record {
  line = line;
  place = place;
  meaning = meaning;
  is_after_end = ended;
  names = names;
  is_place_taken = taken;
})

-- the fault of the line that comes, by the places that are taken
abbrev pub coming_fault : LineFields → MeaningOrFault → ℕ → Bool
    → NameList → List Bool → Option FaultKind
coming_fault line meaning place ended names taken =
    first_kind (rows line meaning place ended names (slice_index_or taken place false))

-- what holds of the word of a line, where it has one
abbrev pub IfCell : MeaningOrFault → (ℕ → Type 0) → Type 0
IfCell (Ok (Cell word)) P = P word
IfCell _ P = Unit {0}

-- a label has at most eight bytes, and its value is at most one past the drum
abbrev pub SymbolFits : Option (List ℕ) → ℕ → Type 0
SymbolFits label place = IfSome label (λ name. (length name ≤ 8) × (place ≤ drum_size))

abbrev pub symbol_at : Option (List ℕ) → ℕ → Option (List ℕ × ℕ)
symbol_at label place = option_map (λ name. (name, place)) label

-- what lines without a fault give
pub record IsImageOf (names : NameList) (cells : List (ℕ × ℕ)) (start : Option ℕ)
    (symbols : NameList) (earlier : List LineFields) : Type 0 where
  pub cells_are : cells ≡ cells_in names earlier
  pub start_is : start ≡ start_in names earlier
  pub symbols_are : symbols ≡ names_of earlier
  pub within : next_place earlier ≤ drum_size
  pub program : AreProgramCells cells

-- what some lines give: their faults, and where there are none their words, their start and their
-- names
pub record IsDraftOf (names : NameList) (faults : List Fault) (cells : List (ℕ × ℕ))
    (start : Option ℕ) (symbols : NameList) (earlier : List LineFields) : Type 0 where
  pub faults_are : faults ≡ faults_in names earlier
  pub image : faults ≡ [] → IsImageOf names cells start symbols earlier

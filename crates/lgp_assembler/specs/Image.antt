-- Part of the public promise: what a source assembles to, and its faults. This project's own
-- choice.
use Rattle.std.specs.Prelude.{ℕ, List, [], ◌∷◌, ◌++◌, map, fold, Option, None, Some, Ok}
use Rattle.std.specs.Prelude.{option_to_list}
use Rattle.std.specs.Option.{option_or}
use Rattle.lgp_source.specs.Source.{lines_of}
use Rattle.lgp_assembler.specs.declared.operations.Operation.{Operation}
use Rattle.lgp_assembler.specs.declared.operations.Operation.TheVariants.{End}
use Rattle.lgp_assembler.specs.declared.operands.Meaning.TheVariants.{Cell, Place}
use Rattle.lgp_assembler.specs.declared.refusal.Fault.{Fault}
use Rattle.lgp_assembler.specs.Fields.{LineFields, fields_of}
use Rattle.lgp_assembler.specs.Places.{place_of, names_of}
use Rattle.lgp_assembler.specs.Parts.{ImageParts, NameList}
use Rattle.lgp_assembler.specs.Operands.{MeaningOrFault}
use Rattle.lgp_assembler.specs.Faults.{line_meaning, faults_in, missing_end}

abbrev pub cell_at : ℕ → MeaningOrFault → Option (ℕ × ℕ)
cell_at place (Ok (Cell word)) = Some (place, word)
cell_at place _ = None

-- the place and the word of a line after those before it, the nearest first, where it has a word
abbrev pub line_cell : NameList → List LineFields → LineFields → Option (ℕ × ℕ)
line_cell names earlier line =
    let place = place_of line earlier in cell_at place (line_meaning names place line)

-- the words of some lines, the nearest first, each with its place, in order of the lines
unfoldable pub cells_in : NameList → List LineFields → List (ℕ × ℕ)
cells_in names [] = []
cells_in names (line ∷ earlier) =
    cells_in names earlier ++ option_to_list (line_cell names earlier line)

abbrev pub start_at : Option Operation → MeaningOrFault → Option ℕ
start_at (Some End) (Ok (Place address)) = Some address
start_at _ _ = None

-- the operand of their end line
unfoldable pub start_in : NameList → List LineFields → Option ℕ
start_in names [] = None
start_in names (line ∷ earlier) =
    let meaning = line_meaning names (place_of line earlier) line in
    option_or (start_in names earlier) (start_at line.operation meaning)

-- lines put in front of those that come before them
abbrev pub passed_lines : List LineFields → List LineFields → List LineFields
passed_lines earlier lines = fold (λ before line. line ∷ before) earlier lines

-- all lines of a source, the last first
unfoldable pub all_lines : List ℕ → List LineFields
all_lines source = passed_lines [] (map fields_of (lines_of source))

-- the faults of a source in order of its lines
abbrev pub faults_of : List ℕ → List Fault
faults_of source =
    let lines = all_lines source in faults_in (names_of lines) lines ++ missing_end lines

-- what a source without faults assembles to
abbrev pub image_of : List ℕ → ImageParts
image_of source = let lines = all_lines source in record {
  cells = cells_in (names_of lines) lines;
  start = start_in (names_of lines) lines;
  symbols = names_of lines;
}

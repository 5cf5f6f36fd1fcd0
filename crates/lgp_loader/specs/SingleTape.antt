-- Part of the public promise. A tape of single cells: for each cell its control word and its word,
-- then the end word.
use Rattle.std.specs.Prelude.{ℕ, List, [], ◌∷◌, ◌++◌, map}
use Rattle.std.specs.List.{concat}
use Rattle.lgp_assembler.specs.Parts.{ImageParts}
use Rattle.lgp_loader.specs.LoaderTape.{carriage_return, control_word, end_word, stopped_word}

abbrev pub cell_codes : ℕ × ℕ → List ℕ
cell_codes cell =
    stopped_word (control_word cell.0) ++ (stopped_word cell.1 ++ carriage_return ∷ [])

-- the tape of an image
unfoldable pub single_tape_codes : ImageParts → List ℕ
single_tape_codes image = concat (map cell_codes image.cells) ++ stopped_word (end_word image.start)

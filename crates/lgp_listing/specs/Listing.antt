-- Part of the public promise: the listing of a source, its lines beside their words. This project's
-- own choice.
use Rattle.std.specs.Prelude.{ℕ, ◌++◌, Option, Some, None, List, [], ◌∷◌, codes, replicate}
use Rattle.lgp_word.specs.Digits.{digits_of, address_digits}
use Rattle.lgp_source.specs.Source.{SourceLine, lines_of}
use Rattle.lgp_assembler.specs.Fields.{LineFields, fields_of}
use Rattle.lgp_assembler.specs.Parts.{NameList}
use Rattle.lgp_assembler.specs.Places.{names_of}
use Rattle.lgp_assembler.specs.Image.{line_cell, all_lines}

-- what comes before a line's text: the place and the digits of its word, each with a space after
-- it, or else 14 spaces
abbrev pub margin : Option (ℕ × ℕ) → List ℕ
margin (Some cell) = address_digits cell.0 ++ codes " " ++ digits_of cell.1 ++ codes " "
margin None = replicate 14 32

-- a line of a listing
abbrev pub listed_line : Option (ℕ × ℕ) → List ℕ → List ℕ
listed_line cell text = margin cell ++ text ++ codes "\n"

-- the lines of a listing that some lines of a source have after those before them, the nearest
-- first
unfoldable pub listing_from : NameList → List LineFields → List SourceLine → List ℕ
listing_from names earlier [] = []
listing_from names earlier (line ∷ lines) =
    listed_line (line_cell names earlier (fields_of line)) line.text
    ++ listing_from names (fields_of line ∷ earlier) lines

-- the listing of a source, with the names of all its lines
unfoldable pub listing_of : List ℕ → List ℕ
listing_of source = listing_from (names_of (all_lines source)) [] (lines_of source)

-- The law on lines and cells.
use Rattle.std.proofs.Common.{◌≡◌, ◌+◌, ◌++◌, ℕ, true, List, [], ◌∷◌, length, Option, None, Some, Result, Ok, Err, is_some, IfSome, refl, sym, ap, ◌∙◌, arith, ⊎_elim, option_to_list}
use Rattle.std.proofs.lemmas.Bool.{cases_Bool, cond-true, cond-false, true≢false}
use Rattle.std.proofs.lemmas.List.{append_assoc, length-append}
use Rattle.lgp_assembler.specs.declared.operands.Meaning.{Meaning}
use Rattle.lgp_assembler.specs.declared.operands.Meaning.TheVariants.{Cell, Place, Nothing}
use Rattle.lgp_assembler.specs.declared.operands.OperandFault.{OperandFault}
use Rattle.lgp_assembler.specs.Fields.{LineFields}
use Rattle.lgp_assembler.specs.Places.{has_word, word_count, place_of, names_of}
use Rattle.lgp_assembler.specs.Faults.{fault_of, faults_in, line_meaning}
use Rattle.lgp_assembler.specs.Image.{line_cell, all_lines, cell_at, cells_in, faults_of, image_of, passed_lines}
use Rattle.lgp_word.specs.Address.{IsAddress}
use Rattle.lgp_assembler.specs.Parts.{AreProgramCells, HaveOwnPlaces}
use Rattle.lgp_assembler.specs.Laws.{HasItsCell, LinesHaveCells, lines_in, place_after, word_total}
use Rattle.lgp_assembler.proofs.Assembled.{first_none}
use Rattle.lgp_assembler.proofs.CellWords.{program_cells, start_is, words_in}
use Rattle.lgp_assembler.proofs.LineCells.{AreFaultless, cell_missing, cell_there, cells_after, cells_in_order, each_faultless, front_faultless}
use Rattle.lgp_assembler.proofs.OwnPlaces.{own_places}
use Rattle.lgp_assembler.proofs.PlaceLaws.{passed-append}

one_there : (cell : Option (ℕ × ℕ)) → is_some cell ≡ true → length (option_to_list cell) ≡ 1
one_there None there = absurd (true≢false (sym there))
one_there (Some cell) there = refl

the_cell : (place : ℕ) (r : Result Meaning OperandFault) → is_some (cell_at place r) ≡ true → (word : ℕ) × (r ≡ Ok (Cell word))
the_cell place (Ok (Cell word)) there = (word, refl)
the_cell place (Ok (Place address)) there = absurd (true≢false (sym there))
the_cell place (Ok Nothing) there = absurd (true≢false (sym there))
the_cell place (Err fault) there = absurd (true≢false (sym there))

module _ (names : List (List ℕ × ℕ)) where
  -- a line without a fault has as many cells as words
  counted : (earlier : List LineFields) (line : LineFields) → fault_of names line earlier ≡ None → length (option_to_list (line_cell names earlier line)) ≡ word_count line
  counted earlier line faultless = ⊎_elim
      (λ word. one_there _ (cell_there names earlier line faultless word) ∙ sym (cond-true (has_word line) 1 0 word))
      (λ none. ap (λ o. length (option_to_list o)) (cell_missing names earlier line faultless none) ∙ sym (cond-false (has_word line) 1 0 none))
      (cases_Bool (has_word line))

  as_many : (earlier lines : List LineFields) → AreFaultless names earlier lines → length (cells_in names (passed_lines earlier lines)) ≡ length (cells_in names earlier) + word_total lines
  unfolding cells_in
  as_many earlier [] none = omega arith
  as_many earlier (line ∷ lines) (here, rest) =
      let cell = line_cell names earlier line in
      let more : length (cells_in names (line ∷ earlier)) ≡ length (cells_in names earlier) + length (option_to_list cell) = length-append (cells_in names earlier) (option_to_list cell) in
      let one = counted earlier line here in
      let others = as_many (line ∷ earlier) lines rest in
      others ∙ omega (arith, more, one)

  as_many_at_all : (lines : List LineFields) → faults_in names (passed_lines [] lines) ≡ [] → length (cells_in names (passed_lines [] lines)) ≡ word_total lines
  unfolding cells_in
  as_many_at_all lines none = as_many [] lines (each_faultless _ [] _ none) ∙ omega arith

  cell_of_line : (earlier after : List LineFields) (line : LineFields) → faults_in names (passed_lines earlier (line ∷ after)) ≡ [] → has_word line ≡ true
      → (word : ℕ) × (line_meaning names (place_of line earlier) line ≡ Ok (Cell word)) × (cells_in names (passed_lines earlier (line ∷ after)) ≡ cells_in names earlier ++ (place_of line earlier, word) ∷ cells_after names (line ∷ earlier) after)
  unfolding cells_in
  cell_of_line earlier after line none has =
      let place = place_of line earlier in
      let own = (each_faultless names earlier (line ∷ after) none).0 in
      let (word, is) = the_cell _ _ (cell_there names earlier line own has) in (
        word,
        is,
        cells_in_order names (line ∷ earlier) after
            ∙ (ap (λ r. (cells_in names earlier ++ option_to_list (cell_at place r)) ++ cells_after names (line ∷ earlier) after) is
            ∙ append_assoc (cells_in names earlier) ((place, word) ∷ []) (cells_after names (line ∷ earlier) after)),
      )

faultless_lines : (source : List ℕ) → faults_of source ≡ [] → faults_in (names_of (all_lines source)) (all_lines source) ≡ []
faultless_lines source none = grind (arith, first_none)

each_cell : (source : List ℕ) (before after : List LineFields) (line : LineFields) → faults_of source ≡ [] → lines_in source ≡ before ++ line ∷ after → has_word line ≡ true
    → HasItsCell source before line
unfolding all_lines
each_cell source before after line none parts has =
    let names = names_of (all_lines source) in
    let earlier = passed_lines [] before in
    let whole : all_lines source ≡ passed_lines earlier (line ∷ after) = ap (passed_lines []) parts ∙ passed-append [] before (line ∷ after) in
    let clear : faults_in names (passed_lines earlier (line ∷ after)) ≡ [] = sym (ap (faults_in names) whole) ∙ faultless_lines _ none in
    let (word, is, cells) = cell_of_line _ _ after line clear has in (
      word,
      is,
      (
        cells_in names earlier,
        cells_after names (line ∷ earlier) after,
        ap (cells_in names) whole ∙ cells,
        as_many_at_all _ before (front_faultless _ _ (line ∷ after) clear),
      ),
    )

pub cells_law : (source : List ℕ) → faults_of source ≡ [] → LinesHaveCells source
unfolding all_lines
cells_law source none = record {
  each = λ before after line parts has. each_cell source before after line none parts has;
  count = as_many_at_all (names_of (all_lines source)) (lines_in source) (faultless_lines source none);
}

-- they lie at places of their own
pub places_apart : (source : List ℕ) → faults_of source ≡ [] → HaveOwnPlaces (image_of source).cells
places_apart source none = own_places _ (all_lines source) (faultless_lines _ none)

-- each is a word of a program
pub places_filled : (source : List ℕ) → faults_of source ≡ [] → AreProgramCells (image_of source).cells
places_filled source none =
    let own = places_apart _ none in
    program_cells _ own.on_drum own.free (words_in _ _)

-- and a start is an address
pub start_on_drum : (source : List ℕ) → IfSome (image_of source).start IsAddress
start_on_drum source = start_is (names_of (all_lines source)) (all_lines source)

pub ruleset own_cells = (places_apart, places_filled, start_on_drum)

-- A listing whose lines are added one by one.
use Rattle.std.proofs.Common.{◌≡◌, ◌++◌, ℕ, true, false, List, [], ◌∷◌, map, Option, Some, None, is_some, option_to_list, refl, sym, ap, ◌∙◌, arith, length, MatchOption}
use Rattle.std.specs.Borrow.{Bor}
use Rattle.std.specs.Option.{option_copied}
use Rattle.std.proofs.lemmas.List.{append_assoc, append-nil}
use Rattle.lgp_source.specs.Source.{SourceLine, lines_of}
use Rattle.lgp_assembler.specs.Fields.{LineFields, fields_of}
use Rattle.lgp_assembler.specs.Places.{has_word, names_of}
use Rattle.lgp_assembler.specs.Image.{line_cell, cells_in, all_lines, faults_of, image_of}
use Rattle.lgp_assembler.proofs.DraftSteps.{append_none}
use Rattle.lgp_assembler.proofs.LineCells.{cell_there, cell_missing, cells_after, cells_in_order, AreFaultless, each_faultless}
use Rattle.lgp_listing.specs.Listing.{listed_line, listing_from, listing_of}

-- the text so far, the lines to come and their cells
pub record IsListedSo (names : List (List ℕ × ℕ)) (earlier : List LineFields) (lines : List SourceLine) (cells : List (ℕ × ℕ)) (text whole : List ℕ) : Type 0 where
  pub faultless : AreFaultless names earlier (map fields_of lines)
  pub cells_are : cells ≡ cells_after names earlier (map fields_of lines)
  pub text_is : text ++ listing_from names earlier lines ≡ whole

pub listed_none : (source : List ℕ) (cells : List (ℕ × ℕ)) → faults_of source ≡ [] → cells ≡ (image_of source).cells
    → IsListedSo (names_of (all_lines source)) [] (lines_of source) cells [] (listing_of source)
unfolding all_lines listing_of cells_in
listed_none source cells none is =
    grind (arith, each_faultless, append_none, cells_in_order)

module _ (names : List (List ℕ × ℕ)) (earlier : List LineFields) (line : SourceLine) (lines : List SourceLine) (cells : List (ℕ × ℕ)) (text whole : List ℕ)
    (so_far : IsListedSo names earlier (line ∷ lines) cells text whole) where
  -- a line without a word
  pub no_cell : has_word (fields_of line) ≡ false → line_cell names earlier (fields_of line) ≡ None
  no_cell none = cell_missing names earlier (fields_of line) so_far.faultless.0 none

  -- a line with a word, which is the first of those that are left
  pub first_cell : has_word (fields_of line) ≡ true → (cell : ℕ × ℕ) × (line_cell names earlier (fields_of line) ≡ Some cell) × (cells ≡ cell ∷ cells_after names (fields_of line ∷ earlier) (map fields_of lines))
  first_cell word = pick (line_cell names earlier (fields_of line)) refl (cell_there names earlier (fields_of line) so_far.faultless.0 word)
    where
      pick : (found : Option (ℕ × ℕ)) → line_cell names earlier (fields_of line) ≡ found → is_some (line_cell names earlier (fields_of line)) ≡ true
          → (cell : ℕ × ℕ) × (line_cell names earlier (fields_of line) ≡ Some cell) × (cells ≡ cell ∷ cells_after names (fields_of line ∷ earlier) (map fields_of lines))
      pick None e some = absurd (true_false (sym some ∙ ap is_some e))
        where
          true_false : true ≡ false → ⊥
          true_false e = cc
      pick (Some cell) e some = (cell, e, so_far.cells_are ∙ ap (λ c. option_to_list c ++ cells_after names (fields_of line ∷ earlier) (map fields_of lines)) e)

  -- a line more
  pub listed_more : (cell : Option (ℕ × ℕ)) (rest : List (ℕ × ℕ)) → cell ≡ line_cell names earlier (fields_of line) → rest ≡ cells_after names (fields_of line ∷ earlier) (map fields_of lines)
      → IsListedSo names (fields_of line ∷ earlier) lines rest (text ++ listed_line cell line.text) whole
  unfolding listing_from
  listed_more cell rest is rest_is = record {
    faultless = so_far.faultless.1;
    cells_are = rest_is;
    text_is = append_assoc text (listed_line cell line.text) (listing_from names (fields_of line ∷ earlier) lines)
        ∙ ap (λ c. text ++ (listed_line c line.text ++ listing_from names (fields_of line ∷ earlier) lines)) is ∙ so_far.text_is;
  }

  pub no_more : line_cell names earlier (fields_of line) ≡ None → cells ≡ cells_after names (fields_of line ∷ earlier) (map fields_of lines)
  no_more e = so_far.cells_are ∙ ap (λ c. option_to_list c ++ cells_after names (fields_of line ∷ earlier) (map fields_of lines)) e

pub listed_all : (names : List (List ℕ × ℕ)) (earlier : List LineFields) (lines : List SourceLine) (cells : List (ℕ × ℕ)) (text whole : List ℕ)
    → IsListedSo names earlier lines cells text whole → lines ≡ [] → text ≡ whole
unfolding listing_from
listed_all names earlier lines cells text whole so_far none =
    sym (append-nil text) ∙ ap (λ ls. text ++ listing_from names earlier ls) (sym none) ∙ so_far.text_is

-- an iterator that is asked for the first of what is left
pub taken_first : {X : Type 0} (cells : List X) (found : Option (Bor X)) (Same : Type 0) (after : List X) (answer : Option X) (cell : X) (rest : List X)
    → MatchOption found ((length cells ≡ 0) × Same) (λ b. cells ≡ b.now ∷ after) → answer ≡ option_copied found → cells ≡ cell ∷ rest → (answer ≡ Some cell) × (after ≡ rest)
taken_first cells None Same after answer cell rest none answered is =
    grind arith
taken_first cells (Some b) Same after answer cell rest step answered is =
    grind arith

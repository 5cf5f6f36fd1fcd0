-- The law on the first fault of a text.
use Rattle.std.proofs.Common.{◌≡◌, ◌+◌, ◌++◌, ◌⊎◌, ℕ, List, [], ◌∷◌, length, Some, None, refl, sym, ap, ◌∙◌, arith, inl, inr, ⊎_elim}
use Rattle.std.proofs.lemmas.Option.{none-some}
use Rattle.bstr.specs.Text.{lines_of}
use Rattle.lgp_listing.specs.declared.reading.DumpFault.TheVariants.{Form, Order}
use Rattle.lgp_listing.specs.Dump.{cell_in, fault_from, first_fault}
use Rattle.lgp_listing.specs.Laws.{IsLineOf, IsFormFault, IsOrderFault, AreSound}
use Rattle.lgp_listing.proofs.Cells.{cell_in-cell_line, cell_line-cell_in}
use Rattle.lgp_listing.proofs.FaultSteps.{at_form, at_order, onward, IsBelow, cases_line}

-- where no line is faulty, all are sound
pub sound_from : (number least : ℕ) (lines : List (List ℕ)) → fault_from number least lines ≡ None → AreSound least lines
sound_from number least [] e = tt
sound_from number least (line ∷ rest) e = ⊎_elim
    (λ none. absurd (none-some (Form number) (sym e ∙ at_form line rest number least none)))
    (⊎_elim
    (λ low. absurd (none-some (Order number) (sym e ∙ at_order _ rest number least low.cell low.read low.below)))
    (λ high. (
      high.cell,
      cell_line-cell_in line high.cell high.read,
      high.above,
      sound_from (number + 1) (high.cell.0 + 1) rest (sym (onward line rest number least high.cell high.read high.above) ∙ e),
    )))
    (cases_line _ _)

-- ---- a fault of form

record IsFormFrom (number least : ℕ) (lines : List (List ℕ)) (reported : ℕ) : Type 0 where
  before : List (List ℕ)
  line : List ℕ
  after : List (List ℕ)
  lines_are : lines ≡ before ++ line ∷ after
  reported_is : reported ≡ number + length before
  sound : AreSound least before
  misformed : cell_in line ≡ None

form_from : (number least : ℕ) (lines : List (List ℕ)) (reported : ℕ) → fault_from number least lines ≡ Some (Form reported) → IsFormFrom number least lines reported
unfolding fault_from
form_from number least [] reported e = absurd (none-some (Form reported) e)
form_from number least (line ∷ rest) reported e = ⊎_elim
    (λ none.
    let same : Some (Form reported) ≡ Some (Form number) = sym e ∙ at_form line rest number least none in
    let is : reported ≡ number = cc (same) in
    record { before = []; line = line; after = rest; lines_are = refl; reported_is = omega arith; sound = tt; misformed = none })
    (⊎_elim
    (λ low. (let same : Some (Form reported) ≡ Some (Order number) = sym e ∙ at_order line rest number least low.cell low.read low.below in cc (same)))
    (λ high.
    let more = form_from (number + 1) (high.cell.0 + 1) rest reported (sym (onward line rest number least high.cell high.read high.above) ∙ e) in
    record {
      before = line ∷ more.before;
      line = more.line;
      after = more.after;
      lines_are = ap (λ t. line ∷ t) more.lines_are;
      reported_is = omega (arith, more.reported_is);
      sound = (high.cell, cell_line-cell_in line high.cell high.read, high.above, more.sound);
      misformed = more.misformed;
    }))
    (cases_line line least)

-- ---- a fault of order

-- the first line's address is too low
record IsLowAtOnce (number least : ℕ) (lines : List (List ℕ)) (reported : ℕ) : Type 0 where
  line : List ℕ
  after : List (List ℕ)
  lines_are : lines ≡ line ∷ after
  reported_is : reported ≡ number
  low : IsBelow line least

-- or that of a later one is
record IsLowLater (number least : ℕ) (lines : List (List ℕ)) (reported : ℕ) : Type 0 where
  before : List (List ℕ)
  last : List ℕ
  line : List ℕ
  after : List (List ℕ)
  lines_are : lines ≡ before ++ last ∷ line ∷ after
  reported_is : reported ≡ number + length before + 1
  sound : AreSound least (before ++ last ∷ [])
  cell : ℕ × ℕ
  last_is : cell_in last ≡ Some cell
  low : IsBelow line (cell.0 + 1)

order_from : (number least : ℕ) (lines : List (List ℕ)) (reported : ℕ) → fault_from number least lines ≡ Some (Order reported)
    → IsLowAtOnce number least lines reported ⊎ IsLowLater number least lines reported
unfolding fault_from
order_from number least [] reported e = absurd (none-some (Order reported) e)
order_from number least (line ∷ rest) reported e = ⊎_elim
    (λ none. (let same : Some (Order reported) ≡ Some (Form number) = sym e ∙ at_form line rest number least none in cc (same)))
    (⊎_elim
    (λ low.
    let same : Some (Order reported) ≡ Some (Order number) = sym e ∙ at_order _ rest number least low.cell low.read low.below in
    inl (record { line = line; after = rest; lines_are = refl; reported_is = cc (same); low = low }))
    (λ high. ⊎_elim
    (λ once. inr (record {
      before = [];
      last = line;
      line = once.line;
      after = once.after;
      lines_are = ap (λ t. line ∷ t) once.lines_are;
      reported_is = omega (arith, once.reported_is);
      sound = (high.cell, cell_line-cell_in line high.cell high.read, high.above, tt);
      cell = high.cell;
      last_is = high.read;
      low = once.low;
    }))
    (λ later. inr (record {
      before = line ∷ later.before;
      last = later.last;
      line = later.line;
      after = later.after;
      lines_are = ap (λ t. line ∷ t) later.lines_are;
      reported_is = omega (arith, later.reported_is);
      sound = (high.cell, cell_line-cell_in line high.cell high.read, high.above, later.sound);
      cell = later.cell;
      last_is = later.last_is;
      low = later.low;
    }))
    (order_from (number + 1) (high.cell.0 + 1) rest reported (sym (onward line rest number least high.cell high.read high.above) ∙ e))))
    (cases_line _ _)

-- a line that is not read is no line of a word
no_line : (line : List ℕ) → cell_in line ≡ None → (cell : ℕ × ℕ) → IsLineOf cell line → ⊥
no_line line none cell is =
    none-some cell (sym none ∙ ap cell_in is.line_is ∙ cell_in-cell_line cell.0 cell.1 is.address_is is.word_is is.some)

pub form_law : (text : List ℕ) (number : ℕ) → first_fault text ≡ Some (Form number) → IsFormFault text number
form_law text number e =
    let at = form_from 1 0 (lines_of text) number e in
    record {
      before = at.before;
      line = at.line;
      after = at.after;
      lines_are = at.lines_are;
      number_is = omega (arith, at.reported_is);
      sound = at.sound;
      misformed = no_line at.line at.misformed;
    }

pub order_law : (text : List ℕ) (number : ℕ) → first_fault text ≡ Some (Order number) → IsOrderFault text number
order_law text number e = ⊎_elim
    (λ once. absurd (omega (arith, once.low.below)))
    (λ at.
    let last = cell_line-cell_in at.last at.cell at.last_is in
    let line = cell_line-cell_in at.line at.low.cell at.low.read in
    record {
      before = at.before;
      last = at.last;
      line = at.line;
      after = at.after;
      lines_are = at.lines_are;
      number_is = omega (arith, at.reported_is);
      sound = at.sound;
      last_cell = at.cell;
      last_is = last;
      cell = at.low.cell;
      line_is = line;
      not_above = omega (arith, at.low.below);
    })
    (order_from 1 0 (lines_of text) number e)

pub none_law : (text : List ℕ) → first_fault text ≡ None → AreSound 0 (lines_of text)
none_law text e = sound_from 1 0 (lines_of text) e

pub ruleset fault_laws = (form_law, order_law, none_law)

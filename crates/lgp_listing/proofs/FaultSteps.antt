-- The first fault of some lines, a line more.
use Rattle.std.proofs.Common.{◌≡◌, ◌<◌, ◌≤◌, ◌+◌, ◌⊎◌, ℕ, List, ◌∷◌, Option, Some, None, refl, ap, ◌∙◌, inl, inr, nat_lt}
use Rattle.std.specs.Option.{option_map_or, option_or}
use Rattle.std.proofs.lemmas.Bool.{cases_lt, cond-true, cond-false, lt-ltb, le-ltb}
use Rattle.lgp_listing.specs.declared.reading.DumpFault.{DumpFault}
use Rattle.lgp_listing.specs.declared.reading.DumpFault.TheVariants.{Form, Order}
use Rattle.lgp_listing.specs.Dump.{cell_in, line_fault, fault_from}

module _ (line : List ℕ) (rest : List (List ℕ)) (number least : ℕ) where
  abbrev after : ℕ → Option DumpFault
  after next = fault_from (number + 1) next rest

  -- the fault of the line by what is read of it, and of those after it
  abbrev by_cell : Option (ℕ × ℕ) → Option DumpFault
  by_cell cell = option_or (line_fault number least cell) (after (option_map_or (λ c. c.0 + 1) cell 0))

  pub at_form : cell_in line ≡ None → fault_from number least (line ∷ rest) ≡ Some (Form number)
  unfolding fault_from
  at_form e = ap by_cell e

  pub at_order : (cell : ℕ × ℕ) → cell_in line ≡ Some cell → cell.0 < least → fault_from number least (line ∷ rest) ≡ Some (Order number)
  unfolding fault_from
  at_order cell e below = ap by_cell e
      ∙ ap (λ fault. option_or fault (after (cell.0 + 1))) (cond-true (nat_lt cell.0 least) (Some (Order number)) None (lt-ltb cell.0 least below))

  pub onward : (cell : ℕ × ℕ) → cell_in line ≡ Some cell → least ≤ cell.0 → fault_from number least (line ∷ rest) ≡ fault_from (number + 1) (cell.0 + 1) rest
  unfolding fault_from
  onward cell e above = ap by_cell e
      ∙ ap (λ fault. option_or fault (after (cell.0 + 1))) (cond-false (nat_lt cell.0 least) (Some (Order number)) None (le-ltb cell.0 least above))

-- a line in form has an address that is below a number or not
pub record IsAtOrAbove (line : List ℕ) (least : ℕ) : Type 0 where
  pub cell : ℕ × ℕ
  pub read : cell_in line ≡ Some cell
  pub above : least ≤ cell.0

pub record IsBelow (line : List ℕ) (least : ℕ) : Type 0 where
  pub cell : ℕ × ℕ
  pub read : cell_in line ≡ Some cell
  pub below : cell.0 < least

pub cases_line : (line : List ℕ) (least : ℕ) → (cell_in line ≡ None) ⊎ (IsBelow line least ⊎ IsAtOrAbove line least)
cases_line line least = pick (cell_in line) refl
  where
    pick : (o : Option (ℕ × ℕ)) → cell_in line ≡ o → (cell_in line ≡ None) ⊎ (IsBelow line least ⊎ IsAtOrAbove line least)
    pick None e = inl e
    pick (Some cell) e = inr (elim (cases_lt cell.0 least) [
      | inl b ↦ inl (record { cell = cell; read = e; below = b })
      | inr a ↦ inr (record { cell = cell; read = e; above = a })
    ])

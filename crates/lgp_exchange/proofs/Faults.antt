-- The first fault of some lines, and the words of some lines, a line more.
use Rattle.std.proofs.Common.{◌≡◌, ◌<◌, ◌≤◌, ◌+◌, ℕ, List, ◌∷◌, Option, Some, None, ap, sym, ◌∙◌, nat_lt, slice_set}
use Rattle.std.specs.Option.{option_map_or, option_or}
use Rattle.std.proofs.lemmas.Bool.{cond-true, cond-false, lt-ltb, le-ltb}
use Rattle.lgp_exchange.specs.declared.examined.ExaminedFault.{ExaminedFault}
use Rattle.lgp_exchange.specs.declared.examined.ExaminedFault.TheVariants.{Form, Order}
use Rattle.lgp_exchange.specs.Examined.{cell_in, line_fault, fault_from, words_after, words_with}

module _ (line : List ℕ) (rest : List (List ℕ)) (number least : ℕ) where
  abbrev after : ℕ → Option ExaminedFault
  after next = fault_from (number + 1) next rest

  -- the fault of the line by what is read of it, and of those after it
  abbrev by_cell : Option (ℕ × ℕ) → Option ExaminedFault
  by_cell cell = option_or (line_fault number least cell) (after (option_map_or (λ c. c.0 + 1) cell 0))

  pub at_form : cell_in line ≡ None → fault_from number least (line ∷ rest) ≡ Some (Form number)
  unfolding fault_from
  at_form e = ap by_cell e

  pub at_order : (cell : ℕ × ℕ) → cell_in line ≡ Some cell → cell.0 < least → fault_from number least (line ∷ rest) ≡ Some (Order number)
  unfolding fault_from
  at_order cell e below = ap by_cell e
      ∙ ap (λ fault. option_or fault (after (cell.0 + 1))) (cond-true (nat_lt cell.0 least) (Some (Order number)) None (lt-ltb cell.0 least below))

  pub onward : (cell : ℕ × ℕ) → cell_in line ≡ Some cell → least ≤ cell.0 → fault_from number least (line ∷ rest) ≡ fault_from (number + 1) (cell.0 + 1) rest
  unfolding fault_from
  onward cell e above = ap by_cell e
      ∙ ap (λ fault. option_or fault (after (cell.0 + 1))) (cond-false (nat_lt cell.0 least) (Some (Order number)) None (le-ltb cell.0 least above))

module _ (words line : List ℕ) (rest : List (List ℕ)) where
  pub words-none : cell_in line ≡ None → words_after words rest ≡ words_after words (line ∷ rest)
  unfolding words_after
  words-none e = sym (ap (λ cell. words_after (words_with words cell) rest) e)

  pub words-some : (cell : ℕ × ℕ) → cell_in line ≡ Some cell → words_after (slice_set words cell.0 cell.1) rest ≡ words_after words (line ∷ rest)
  unfolding words_after
  words-some cell e = sym (ap (λ c. words_after (words_with words c) rest) e)

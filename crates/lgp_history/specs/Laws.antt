-- Part of the public promise. What the laws on kept steps say: which order a last hit is, and what
-- orders done again come to.
use Rattle.std.specs.Prelude.{◌≡◌, ℕ, ◌+◌, false, List, [], ◌∷◌, ◌++◌, Some, slice_get, IsTrue, All}
use Rattle.lgp_table.specs.State.{State}
use Rattle.lgp_table.specs.Activity.{next}
use Rattle.lgp_history.specs.Steps.{is_order, orders_in}
use Rattle.lgp_history.specs.Hits.{is_hit}
use Rattle.lgp_history.specs.declared.rule.Rule.{Rule}
use Rattle.lgp_history.specs.Step.{KeptStep}

-- the state after as many orders as there are steps here
abbrev pub performed_again : State → List KeptStep → State
performed_again s [] = s
performed_again s (k ∷ later) = performed_again (next s) later

-- no rule hits the step: it is no order, or one that none of them hits
abbrev pub PassesRules : List Rule → KeptStep → Type 0
PassesRules rules k = IsTrue (is_order k.step) → All (λ rule. is_hit k.before rule ≡ false) rules

-- a hit: it is a given number of orders back, the rule of its number hits it, and no rule hits a
-- later order
pub record IsLastHit (rules : List Rule) (kept : List KeptStep) (hit : ℕ × ℕ) : Type 0 where
  pub earlier : List KeptStep
  pub order : KeptStep
  pub later : List KeptStep
  pub parts : kept ≡ earlier ++ order ∷ later
  pub is_an_order : IsTrue (is_order order.step)
  pub orders_back : hit.0 ≡ orders_in later + 1
  pub rule : Rule
  pub numbered : slice_get rules hit.1 ≡ Some rule
  pub hits : IsTrue (is_hit order.before rule)
  pub later_pass : All (PassesRules rules) later

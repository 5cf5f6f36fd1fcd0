-- Part of the public promise. Where words came from: the latest kept step that changed the word at
-- an address.
use Rattle.std.specs.Prelude.{◌≡◌, ℕ, ◌==◌, Bool, false, not, if◌then◌else◌, List, [], ◌∷◌, ◌++◌}
use Rattle.std.specs.Prelude.{Option, Some, None, IsTrue, All}
use Rattle.std.specs.Option.{option_or}
use Rattle.lgp_table.specs.State.{Core, State, word_at}
use Rattle.lgp_table.specs.Activity.{BegunOrder, begun_order, place_in}
use Rattle.lgp_history.specs.Steps.{is_order, orders_in, stepped}
use Rattle.lgp_history.specs.declared.origin.Changer.{Changer}
use Rattle.lgp_history.specs.declared.origin.Changer.TheVariants.{Order, Hand}
use Rattle.lgp_history.specs.declared.origin.Origin.{Origin}
use Rattle.lgp_history.specs.declared.origin.PastOrder.{PastOrder}
use Rattle.lgp_history.specs.Step.{KeptStep}

-- the word of an activity's order; where the operator has the tape read, what is in the
-- register
abbrev pub word_or_register : Option BegunOrder → Core → ℕ
word_or_register None core = core.panel.register
word_or_register (Some order) core = order.word

-- the order that began in a state, a given number of orders back
abbrev pub past_order : State → ℕ → PastOrder
past_order s orders_back = record {
  place = place_in (begun_order s.core);
  word = word_or_register (begun_order s.core) s.core;
  clock = s.clock;
  orders_back = orders_back;
}

-- whether a kept step left another word at an address
abbrev pub changed_at : ℕ → KeptStep → Bool
changed_at address k =
    not (word_at k.before.core address == word_at (stepped k.step k.before).core address)

-- what did a kept step: an order, a given number of orders back, or a hand
abbrev pub changer_of : KeptStep → ℕ → Changer
changer_of k orders_back =
    if is_order k.step then Order (past_order k.before orders_back) else Hand k.before.clock

-- a kept step as the origin of the word at an address
abbrev pub origin_of : ℕ → KeptStep → ℕ → Origin
origin_of address k orders_back = record {
  changer = changer_of k orders_back;
  lost = word_at k.before.core address;
}

-- the latest kept step that changed the word at an address; an order back is counted as it is in
-- going back
unfoldable pub latest_change : ℕ → List KeptStep → Option Origin
latest_change address [] = None
latest_change address (k ∷ later) =
    option_or (latest_change address later)
    (if changed_at address k then Some (origin_of address k (orders_in (k ∷ later))) else None)

-- an origin: the step that it names left the word as it is now, and no later step changed it
pub record IsOrigin (address : ℕ) (kept : List KeptStep) (now : State) (origin : Origin)
    : Type 0 where
  pub earlier : List KeptStep
  pub change : KeptStep
  pub later : List KeptStep
  pub parts : kept ≡ earlier ++ change ∷ later
  pub changed : IsTrue (changed_at address change)
  pub named : origin ≡ origin_of address change (orders_in (change ∷ later))
  pub stands : word_at now.core address ≡ word_at (stepped change.step change.before).core address
  pub later_stay : All (λ k. changed_at address k ≡ false) later

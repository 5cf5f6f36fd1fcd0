-- Part of the public promise: words with their addresses, and where the word at an address came from,
-- as records.
use Rattle.std.specs.Prelude.{ℕ, ◌++◌, Option, Some, None, List, [], ◌∷◌, codes}
use Rattle.std.specs.Option.{option_map, option_map_or}
use Rattle.std.specs.Prelude.{option_and_then}
use Rattle.lgp_word.specs.Digits.{digits_of}
use Rattle.lgp_history.specs.declared.origin.Changer.{Changer}
use Rattle.lgp_history.specs.declared.origin.Changer.TheVariants.{Order, Hand}
use Rattle.lgp_history.specs.declared.origin.PastOrder.{PastOrder}
use Rattle.lgp_history.specs.Origins.{latest_change}
use Rattle.lgp_table.specs.State.{word_at}
use Rattle.lgp_debugger.specs.Debugging.{Debugging}
use Rattle.lgp_fields.specs.Plain.{Plain, PlainField, field, Nothing, Number, Text}
use Rattle.lgp_data.specs.ShowData.{word_fields}
use Rattle.lgp_data.specs.Words.{name_of, performed_order, place_value, whole_number, word_order}

-- what changed a word: an order, a hand, or no kept step
abbrev pub kind_of : Option Changer → List ℕ
kind_of None = codes "none"
kind_of (Some (Order order)) = codes "order"
kind_of (Some (Hand clock)) = codes "hand"

-- the order that changed it
abbrev pub order_of : Option Changer → Option PastOrder
order_of (Some (Order order)) = Some order
order_of changer = None

-- when that was
abbrev pub clock_of : Option Changer → Plain
clock_of None = Nothing
clock_of (Some (Order order)) = Number order.clock
clock_of (Some (Hand clock)) = Number clock

-- where that order was; none where it was in the instruction register alone
abbrev pub order_place : Option PastOrder → Option ℕ
order_place order = option_and_then (λ past. past.place) order

abbrev pub place_label : List (List ℕ × ℕ) → Option ℕ → Plain
place_label names place = option_map_or (name_of names) place Nothing

-- what changed a word, and when
unfoldable pub changer_fields : List (List ℕ × ℕ) → Option Changer → List PlainField
changer_fields names changer =
    let order = order_of changer in
    field (codes "changed-by") (Text (kind_of changer))
    ∷ field (codes "by-order") (option_map_or (λ past. performed_order past.word) order Nothing)
    ∷ field (codes "by-at") (place_value (order_place order))
    ∷ field (codes "by-label") (place_label names (order_place order))
    ∷ field (codes "by-clock") (clock_of changer)
    ∷ field (codes "by-ago") (option_map_or (λ past. Number past.orders_back) order Nothing)
    ∷ []

-- what was there before
unfoldable pub lost_fields : Option ℕ → List PlainField
lost_fields lost =
    field (codes "before") (option_map_or (λ word. Text (digits_of word)) lost Nothing)
    ∷ field (codes "before-order") (option_map_or word_order lost Nothing)
    ∷ field (codes "before-number") (option_map_or whole_number lost Nothing)
    ∷ []

-- the word at an address of a debugger's drum, and the latest kept step that changed it
unfoldable pub why_of : List (List ℕ × ℕ) → Debugging → ℕ → List PlainField
why_of names d address =
    let origin = latest_change address d.steps in
    word_fields names address (word_at d.state.core address)
    ++ (changer_fields names (option_map (λ origin. origin.changer) origin)
    ++ lost_fields (option_map (λ origin. origin.lost) origin))

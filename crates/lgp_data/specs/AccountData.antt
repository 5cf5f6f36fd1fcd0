-- Part of the public promise. The account of an order as a record, with where the order came from. What
-- an order does not have is no value: one in the instruction register alone has no place, most store,
-- print and pass nothing.
use Rattle.std.specs.Prelude.{ℕ, ◌++◌, ◌==◌, if◌then◌else◌, Option, Some, None, List, [], ◌∷◌, codes}
use Rattle.std.specs.Prelude.{is_some, option_map}
use Rattle.std.specs.Option.{option_map_or}
use Rattle.lgp_word.specs.Digits.{digits_of}
use Rattle.lgp_word.specs.Order.{decoded, op_at, sign_of}
use Rattle.lgp_table.specs.Activity.{stores}
use Rattle.lgp_table.specs.declared.panel.Status.{Status}
use Rattle.lgp_table.specs.declared.panel.Status.TheVariants.{Executing}
use Rattle.lgp_text.specs.PanelWords.{status_text}
use Rattle.lgp_history.specs.declared.origin.Changer.{Changer}
use Rattle.lgp_history.specs.declared.origin.Changer.TheVariants.{Order, Hand}
use Rattle.lgp_history.specs.declared.origin.Origin.{Origin}
use Rattle.lgp_history.specs.declared.origin.PastOrder.{PastOrder}
use Rattle.lgp_trace.specs.declared.account.Account.{Account}
use Rattle.lgp_trace.specs.declared.account.Operand.{Operand}
use Rattle.lgp_trace.specs.declared.phases.Phases.{Phases}
use Rattle.lgp_fields.specs.Plain.{Plain, PlainField, field, Nothing, Number, Text}
use Rattle.lgp_fields.specs.Printed.{record_in, signed_text}
use Rattle.lgp_fields.specs.declared.records.RecordForm.{RecordForm}
use Rattle.lgp_data.specs.ShowData.{sign_value}
use Rattle.lgp_data.specs.WhyData.{clock_of, order_of}
use Rattle.lgp_data.specs.Words.{labelled_order, labelled_place, number_size, whole_number, word_order}

-- where there is no order: the status in which the activity begins
abbrev pub status_value : Option ℕ → Status → Plain
status_value order status = if is_some order then Nothing else Text (status_text status)

-- a word by its digits and as a number
abbrev pub digits_and_number : ℕ → List ℕ
digits_and_number word =
    digits_of word ++ (codes " = " ++ signed_text (sign_of word) (number_size word))

-- the word of the drum that an order has stored
abbrev pub stored_operand : Option ℕ → Option Operand → Option Operand
stored_operand (Some order) operand = if stores (op_at order) then operand else None
stored_operand None operand = None

-- ---- what shows when the activity begins, and how long it takes

module _ (names : List (List ℕ × ℕ)) where
  -- where the order was, if it was anywhere
  abbrev pub at_value : Option ℕ → Status → Plain
  at_value (Some place) status = labelled_place names place
  at_value None Executing = Text (codes "register")
  at_value None status = Nothing

  abbrev pub order_value : Option ℕ → Plain
  order_value order = option_map_or (labelled_order names) order Nothing

  unfoldable pub begun_fields : Account → List PlainField
  begun_fields account =
      field (codes "clock") (Number account.before.clock)
      ∷ field (codes "at") (at_value account.place account.before.status)
      ∷ field (codes "order") (order_value account.order)
      ∷ field (codes "status") (status_value account.order account.before.status)
      ∷ field (codes "find") (Number account.phases.find)
      ∷ field (codes "take") (Number account.phases.take)
      ∷ field (codes "seek") (Number account.phases.seek)
      ∷ field (codes "act") (Number account.phases.act)
      ∷ field (codes "before") (Text (digits_of account.before.accumulator))
      ∷ field (codes "after") (Text (digits_of account.after.accumulator))
      ∷ []

  -- ---- what put the order there, and what was there before

  abbrev pub put_by : Option Changer → Plain
  put_by None = Nothing
  put_by (Some (Order order)) = labelled_order names order.word
  put_by (Some (Hand clock)) = Text (codes "hand")

  abbrev pub put_at : Option PastOrder → Plain
  put_at order =
      option_map_or (λ past. option_map_or (labelled_place names) past.place
      (Text (codes "register"))) order Nothing

  -- a lost word as the order that it is, or else by its digits and as a number
  abbrev pub over_value : ℕ → Plain
  over_value word =
      if is_some (decoded word) then labelled_order names word else Text (digits_and_number word)

  unfoldable pub put_fields : Option Changer → Plain → List PlainField
  put_fields changer over =
      let order = order_of changer in
      field (codes "put-by") (put_by changer)
      ∷ field (codes "put-at") (put_at order)
      ∷ field (codes "put-clock") (clock_of changer)
      ∷ field (codes "put-ago") (option_map_or (λ past. Number past.orders_back) order Nothing)
      ∷ field (codes "put-over") over
      ∷ []

  unfoldable pub origin_fields : Option Origin → List PlainField
  origin_fields origin =
      put_fields (option_map (λ origin. origin.changer) origin)
      (option_map_or over_value (option_map (λ origin. origin.lost) origin) Nothing)

  -- ---- what the activity has stored, printed and passed

  -- a word as the order that it is, if it is one, with its label
  abbrev pub stored_order : ℕ → Plain
  stored_order word = if is_some (decoded word) then labelled_order names word else Nothing

  unfoldable pub stored_fields : Option Operand → List PlainField
  stored_fields operand =
      let found = option_map (λ word. word.found) operand in
      let left = option_map (λ word. word.left) operand in
      field (codes "stored") (option_map_or (λ word. labelled_place names word.address) operand
      Nothing)
      ∷ field (codes "found") (option_map_or (λ word. Text (digits_of word)) found Nothing)
      ∷ field (codes "found-order") (option_map_or stored_order found Nothing)
      ∷ field (codes "found-number") (option_map_or whole_number found Nothing)
      ∷ field (codes "left") (option_map_or (λ word. Text (digits_of word)) left Nothing)
      ∷ field (codes "left-order") (option_map_or stored_order left Nothing)
      ∷ field (codes "left-number") (option_map_or whole_number left Nothing)
      ∷ []

-- a count, unless it is 0
abbrev pub some_count : ℕ → Plain
some_count count = if count == 0 then Nothing else Number count

unfoldable pub paper_fields : Account → List PlainField
paper_fields account =
    field (codes "printed") (option_map_or Number account.printed Nothing)
    ∷ field (codes "sign") (option_map_or sign_value account.printed Nothing)
    ∷ field (codes "passed") (some_count account.passed)
    ∷ []

-- ---- the record

unfoldable pub account_record : List (List ℕ × ℕ) → Account → Option Origin → List PlainField
account_record names account origin =
    begun_fields names account ++ (origin_fields names origin
    ++ (stored_fields names (stored_operand account.order account.operand)
    ++ paper_fields account))

unfoldable pub account_in : RecordForm → List (List ℕ × ℕ) → Account → Option Origin → List ℕ
account_in form names account origin = record_in form (account_record names account origin)

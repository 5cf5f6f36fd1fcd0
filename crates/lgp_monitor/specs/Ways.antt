-- Part of the public promise: lines that bring a session to the beginning of an order.
use Rattle.std.specs.Prelude.{ℕ, Bool, not, if◌then◌else◌, is_some, nat_lt, Option, Some, None}
use Rattle.std.specs.Prelude.{List, [], ◌∷◌, ◌++◌, codes, decimal}
use Rattle.std.specs.Str.Lines.{lines}
use Rattle.lgp_fields.specs.Plain.{PlainField, field, Number}
use Rattle.lgp_fields.specs.Printed.{record_in}
use Rattle.lgp_fields.specs.declared.records.RecordForm.{RecordForm}
use Rattle.lgp_fields.specs.declared.records.RecordForm.TheVariants.{Lines as AsLines, Objects}
use Rattle.lgp_stream.specs.Transcript.{Meaning, Lines, Anew, Recorded}
use Rattle.lgp_script.specs.LabState.{LabState, opening_state}
use Rattle.lgp_script.specs.Refusal.{refusal_words}
use Rattle.lgp_script.specs.declared.refusal.Refusal.TheVariants.{NoHit}
use Rattle.lgp_moment.specs.Moment.{all_orders, lines_to, moment_of}
use Rattle.lgp_moment.specs.Search.{order_sought}
use Rattle.lgp_monitor.specs.Moments.{not_yet_text}
use Rattle.lgp_monitor.specs.declared.way.Way.{Way}
use Rattle.lgp_monitor.specs.declared.way.Way.TheVariants.{Order, Sought}

-- where the session is then: the number of the order, and the clock; for programs as a record
unfoldable pub came_text : ℕ → ℕ → List ℕ
came_text order clock =
    codes "order " ++ (decimal order ++ (codes " clock " ++ (decimal clock ++ codes "\n")))

unfoldable pub came_record : ℕ → ℕ → List PlainField
came_record order clock =
    field (codes "order") (Number order) ∷ field (codes "clock") (Number clock) ∷ []

abbrev pub came_in : RecordForm → ℕ → ℕ → List ℕ
came_in AsLines order clock = came_text order clock
came_in Objects order clock = record_in Objects (came_record order clock)

-- the refusal where no order has met the condition
unfoldable pub unmet_text : ℕ → List ℕ
unmet_text orders = refusal_words (NoHit orders) ++ codes ": none of the orders meets it\n"

abbrev pub nowhere_text : Way → ℕ → List ℕ
nowhere_text (Order number) orders = not_yet_text orders
nowhere_text (Sought which condition) orders = unmet_text orders

module _ (recorded : Recorded LabState) where
  -- how many orders there were, and the session as it was when one of them began
  abbrev pub orders_there : ℕ
  orders_there = all_orders opening_state (lines recorded.transcript)

  abbrev pub session_at : ℕ → Recorded LabState
  session_at order = moment_of recorded.transcript order

  -- the order to whose beginning a way leads, if there is one
  abbrev pub order_of_way : Way → Option ℕ
  order_of_way (Order number) = if nat_lt orders_there number then None else Some number
  order_of_way (Sought which condition) =
      order_sought which condition opening_state (lines recorded.transcript)

  -- what such a line stands for: a new beginning, and the lines that lead to the order
  abbrev pub meaning_at_order : Option ℕ → Meaning
  meaning_at_order (Some order) = Anew (lines_to opening_state (lines recorded.transcript) order)
  meaning_at_order None = Lines []

  abbrev pub reply_at_order : Way → RecordForm → Option ℕ → List ℕ
  reply_at_order way form (Some order) = came_in form order (session_at order).state.debugger.state.clock
  reply_at_order way form None = nowhere_text way orders_there

  abbrev pub refuses_way : Way → Bool
  refuses_way way = not (is_some (order_of_way way))

-- Part of the public promise: the state of a machine at a boundary as a record: what the panel shows,
-- what is live, what lets the machine go on, which rule holds here, how many orders can be taken
-- back, and how many steps are kept.
use Rattle.std.specs.Prelude.{ℕ, ◌++◌, ◌==◌, Bool, false, if◌then◌else◌, Option, Some, None}
use Rattle.std.specs.Prelude.{List, [], ◌∷◌, codes, length, option_map, position}
use Rattle.std.specs.Option.{option_map_or}
use Rattle.lgp_word.specs.Digits.{address_digits, digits_of}
use Rattle.lgp_machine.specs.Look.{look_of}
use Rattle.lgp_machine.specs.declared.look.Look.{Look}
use Rattle.lgp_table.specs.Console.{is_live, is_waiting, takes_codes}
use Rattle.lgp_table.specs.declared.action.Action.TheVariants as actions
use Rattle.lgp_table.specs.declared.panel.Mode.TheVariants.{Normal, OneOperation, Manual}
use Rattle.lgp_table.specs.declared.panel.Panel.{Panel}
use Rattle.lgp_text.specs.PanelWords.{mode_text, on_text, status_text}
use Rattle.lgp_debugger.specs.Debugging.{Debugging}
use Rattle.lgp_history.specs.Hits.{goes_at}
use Rattle.lgp_history.specs.Origins.{latest_change}
use Rattle.lgp_history.specs.Steps.{orders_in}
use Rattle.lgp_history.specs.declared.origin.Changer.{Changer}
use Rattle.lgp_history.specs.declared.origin.Changer.TheVariants.{Order}
use Rattle.lgp_history.specs.declared.rule.Rule.{Rule}
use Rattle.lgp_history.specs.declared.rule.Rule.TheVariants.{At, Changed}
use Rattle.lgp_fields.specs.Plain.{PlainField, field, Nothing, Number, Text, YesNo}
use Rattle.lgp_data.specs.Ways.{state_sentence, way_kind, way_sentence}
use Rattle.lgp_data.specs.Words.{bits_order, name_of, whole_number, word_order}

-- the registers, by their digits, as numbers and as orders
unfoldable pub register_fields : List (List ℕ × ℕ) → Look → List PlainField
register_fields names look =
    field (codes "counter") (Text (address_digits look.counter))
    ∷ field (codes "counter-label") (name_of names look.counter)
    ∷ field (codes "accumulator") (Text (digits_of look.accumulator))
    ∷ field (codes "accumulator-number") (whole_number look.accumulator)
    ∷ field (codes "accumulator-order") (bits_order look.accumulator)
    ∷ field (codes "register") (Text (digits_of look.register))
    ∷ field (codes "register-number") (whole_number look.register)
    ∷ field (codes "register-order") (word_order look.register)
    ∷ []

-- the position of a switch
abbrev pub position_word : Bool → List ℕ
position_word down = if down then codes "down" else codes "up"

-- status, mode, switches, reader, how many codes are left, and the clock
unfoldable pub panel_fields : Look → ℕ → List PlainField
panel_fields look left =
    field (codes "status") (Text (status_text look.status))
    ∷ field (codes "mode") (Text (mode_text look.mode))
    ∷ field (codes "bp32") (Text (position_word look.switches.b32))
    ∷ field (codes "bp16") (Text (position_word look.switches.b16))
    ∷ field (codes "bp8") (Text (position_word look.switches.b8))
    ∷ field (codes "bp4") (Text (position_word look.switches.b4))
    ∷ field (codes "transfer") (Text (position_word look.switches.transfer))
    ∷ field (codes "sixbit") (Text (position_word look.switches.six_bit))
    ∷ field (codes "reader") (Text (on_text look.reader_on))
    ∷ field (codes "tape") (Number left)
    ∷ field (codes "clock") (Number look.clock)
    ∷ []

-- ---- the rule that holds here

-- whether the last order changed a word, by where the word came from
abbrev pub is_by_last : Option Changer → Bool
is_by_last (Some (Order order)) = order.orders_back == 1
is_by_last changer = false

-- whether a run stops here by a rule: the machine is going at its address, or the last order changed
-- its word
abbrev pub holds_here : Debugging → Rule → Bool
holds_here d (At address) = goes_at d.state address
holds_here d (Changed address) =
    is_by_last (option_map (λ origin. origin.changer) (latest_change address d.steps))

-- the number of the first such rule
abbrev pub rule_here : Debugging → Option ℕ
rule_here d = position (holds_here d) d.rules

-- ---- what is live

-- which buttons and keys would do something, what the machine is doing, what lets it go on, the rule
-- that holds here, how many orders can be taken back, and how many steps are kept: these orders, and
-- presses, pauses, tapes and words put by hand beside them
unfoldable pub live_fields : Panel → Option ℕ → ℕ → ℕ → List PlainField
live_fields panel rule orders steps =
    field (codes "live-normal") (YesNo (is_live panel (actions.Mode Normal)))
    ∷ field (codes "live-oneop") (YesNo (is_live panel (actions.Mode OneOperation)))
    ∷ field (codes "live-manual") (YesNo (is_live panel (actions.Mode Manual)))
    ∷ field (codes "live-start") (YesNo (is_live panel actions.Start))
    ∷ field (codes "live-clear") (YesNo (is_live panel actions.ClearCounter))
    ∷ field (codes "live-fill") (YesNo (is_live panel actions.Fill))
    ∷ field (codes "live-execute") (YesNo (is_live panel actions.Execute))
    ∷ field (codes "live-compute") (YesNo (is_live panel actions.StartCompute))
    ∷ field (codes "live-read") (YesNo (is_live panel actions.StartRead))
    ∷ field (codes "live-keys") (YesNo (takes_codes panel.status panel.mode))
    ∷ field (codes "live-stop") (YesNo (is_waiting panel.status))
    ∷ field (codes "way") (Text (way_kind panel.status panel.mode))
    ∷ field (codes "state-sentence") (Text (state_sentence panel.status))
    ∷ field (codes "way-sentence") (Text (way_sentence panel.status panel.mode))
    ∷ field (codes "rule") (option_map_or Number rule Nothing)
    ∷ field (codes "kept") (Number orders)
    ∷ field (codes "kept-steps") (Number steps)
    ∷ []

-- what the panel shows: the registers by their digits, and all else
unfoldable pub panel_record : Look → ℕ → List PlainField
panel_record look left =
    field (codes "counter") (Text (address_digits look.counter))
    ∷ field (codes "accumulator") (Text (digits_of look.accumulator))
    ∷ field (codes "register") (Text (digits_of look.register))
    ∷ panel_fields look left

unfoldable pub state_record : List (List ℕ × ℕ) → Debugging → List PlainField
state_record names d =
    register_fields names (look_of d.state)
    ++ (panel_fields (look_of d.state) (length d.state.core.tape.left)
    ++ live_fields d.state.core.panel (rule_here d) (orders_in d.steps) (length d.steps))

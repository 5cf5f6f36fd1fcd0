-- Part of the public promise. The switches BREAK POINT and TRANSFER CONTROL (Operations Manual,
-- "The control panel"): which orders look at them, and what it is to press nothing else.
use Rattle.std.specs.Prelude.{ℕ, Bool, true, false, nat_le, Option, Some, None}
use Rattle.lgp_word.specs.Address.{track_of}
use Rattle.lgp_word.specs.Order.{address_at, op_at, sign_of}
use Rattle.lgp_word.specs.declared.order.Op.{Op}
use Rattle.lgp_word.specs.declared.order.Op.TheVariants.{Z, T}
use Rattle.lgp_table.specs.State.{Core, State}
use Rattle.lgp_table.specs.Activity.{BegunOrder, begun_order}
use Rattle.lgp_table.specs.declared.action.Action.{Action}
use Rattle.lgp_table.specs.declared.action.Action.TheVariants as actions
use Rattle.lgp_table.specs.declared.action.Event.{Event}
use Rattle.lgp_table.specs.declared.action.Event.TheVariants.{WordTime, Press}
use Rattle.lgp_table.specs.declared.panel.Switches.{Switches}

-- whether an order looks at them: a z whose track number has one of the bits 32, 16, 8, 4, and a t
-- with a minus
abbrev pub order_looks : Op → Bool → ℕ → Bool
order_looks Z minus m = nat_le 4 (track_of m)
order_looks T minus m = minus
order_looks _ minus m = false

abbrev pub word_looks : ℕ → Bool
word_looks word = order_looks (op_at word) (sign_of word) (address_at word)

-- whether the order of an activity does, if there is one
abbrev pub looks : Option BegunOrder → Bool
looks None = false
looks (Some order) = word_looks order.word

-- whether the activity that begins here looks at them
abbrev pub looks_at_switches : State → Bool
looks_at_switches s = looks (begun_order s.core)

-- the same state with BREAK POINT and TRANSFER CONTROL set as given; 6 BIT INPUT stays
abbrev pub core_with_switches : Core → Switches → Core
core_with_switches core switches =
    record core {
      panel = record core.panel {
        switches = record switches { six_bit = core.panel.switches.six_bit };
      };
    }

abbrev pub with_switches : State → Switches → State
with_switches s switches = record s { core = core_with_switches s.core switches }

abbrev pub is_word_time : Event → Bool
is_word_time WordTime = true
is_word_time _ = false

abbrev pub presses_switch : Action → Bool
presses_switch (actions.BreakPoint which down) = true
presses_switch (actions.Transfer down) = true
presses_switch _ = false

-- a word time, or a press of one of those switches
abbrev pub is_time_or_switch : Event → Bool
is_time_or_switch WordTime = true
is_time_or_switch (Press action) = presses_switch action

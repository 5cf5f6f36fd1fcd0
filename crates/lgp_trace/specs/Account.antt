-- Part of the public promise. The account of an activity: what shows before and after it, its order
-- and the order's place, the word times of its phases, the word of the drum that it waited for and
-- what it left there, what it printed, and how many codes of the tape passed.
use Rattle.std.specs.Prelude.{ℕ, ◌-◌, if◌then◌else◌, Option, Some, None, length, option_map}
use Rattle.lgp_word.specs.Order.{address_at, op_at}
use Rattle.lgp_table.specs.State.{Core, State, word_at}
use Rattle.lgp_table.specs.Activity.{begun_order, next, place_in, print_of, seeks, stores}
use Rattle.lgp_machine.specs.Look.{look_of}
use Rattle.lgp_trace.specs.Phases.{phases_of}
use Rattle.lgp_trace.specs.declared.account.Account.{Account}
use Rattle.lgp_trace.specs.declared.account.Begun.{Begun}
use Rattle.lgp_trace.specs.declared.account.Found.{Found}
use Rattle.lgp_trace.specs.declared.account.Operand.{Operand}

-- where the order of the activity is: only an order at the counter has a place
abbrev pub place_of : State → Option ℕ
place_of s = place_in (begun_order s.core)

-- the order's word, from the drum or in the instruction register
abbrev pub order_of : State → Option ℕ
order_of s = option_map (λ order. order.word) (begun_order s.core)

-- the word that an order waits for, as it finds it
abbrev pub sought_word : Option ℕ → Core → Option Found
sought_word None core = None
sought_word (Some order) core =
    let address = address_at order in
    if seeks (op_at order) then Some (record { address = address; word = word_at core address })
    else None

abbrev pub found_of : State → Option Found
found_of s = sought_word (order_of s) s.core

-- that word, and what is there afterwards
abbrev pub operand_in : Core → Found → Operand
operand_in after found = record {
  address = found.address;
  found = found.word;
  left = word_at after found.address;
}

-- the address at which the activity stores
abbrev pub stored_address : Option ℕ → Option ℕ
stored_address None = None
stored_address (Some order) = if stores (op_at order) then Some (address_at order) else None

-- all that is known when the activity begins
abbrev pub begun_of : State → Begun
begun_of s = record {
  before = look_of s;
  place = place_of s;
  order = order_of s;
  phases = phases_of s;
  found = found_of s;
  prints = print_of s.core;
  passed = length s.core.tape.passed;
}

-- the account of an activity that began so and has come to this state
abbrev pub finished : Begun → State → Account
finished begun after = record {
  before = begun.before;
  after = look_of after;
  place = begun.place;
  order = begun.order;
  phases = begun.phases;
  operand = option_map (operand_in after.core) begun.found;
  printed = begun.prints;
  passed = length after.core.tape.passed - begun.passed;
}

-- the account of the activity that begins here
abbrev pub account_of : State → Account
account_of s = finished (begun_of s) (next s)

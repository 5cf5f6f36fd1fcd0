-- Part of the public promise. The four phases of an activity in word times. The first and the third
-- are waits, in which the word time is counted that reads the word.
use Rattle.std.specs.Prelude.{◌≡◌, ◌≢◌, ℕ, ◌+◌, ◌<◌, ◌≤◌, Option, Some, None}
use Rattle.lgp_word.specs.Address.{sector_of}
use Rattle.lgp_word.specs.Drum.{position_of, position_under_head}
use Rattle.lgp_word.specs.Order.{address_at, op_at}
use Rattle.lgp_flexo.specs.Tape.{Tape}
use Rattle.lgp_table.specs.State.{State}
use Rattle.lgp_table.specs.Activity.{BegunOrder, act_time, begun_order, find_time, seek_time}
use Rattle.lgp_table.specs.Activity.{take_time, time_alone}
use Rattle.lgp_table.specs.declared.panel.Status.{Status}
use Rattle.lgp_trace.specs.declared.phases.Phases.{Phases}

abbrev pub all_phases : Phases → ℕ
all_phases phases = phases.find + phases.take + phases.seek + phases.act

-- an activity without an order from the drum or the register: it only acts
abbrev pub only_act : ℕ → Phases
only_act times = record { find = 0; take = 0; seek = 0; act = times }

-- an order that begins at this clock, or an activity without one
abbrev pub phases_with : Option BegunOrder → Status → Tape → ℕ → Phases
phases_with None status tape clock = only_act (time_alone status tape)
phases_with (Some order) status tape clock =
    let find = find_time order.place clock in
    let take = take_time order.place in
    record {
      find = find;
      take = take;
      seek = seek_time (op_at order.word) (address_at order.word) (clock + (find + take));
      act = act_time (op_at order.word) (address_at order.word) tape;
    }

-- the phases of the activity that begins here
unfoldable pub phases_of : State → Phases
phases_of s = phases_with (begun_order s.core) s.core.panel.status s.core.tape s.clock

-- From this clock on the head has read the sector of an address when a given number of word times
-- have passed, and not before.
pub record IsFirstRead (address clock times : ℕ) : Type 0 where
  pub some : 1 ≤ times
  pub read : position_under_head (clock + times) ≡ position_of (sector_of address)
  pub not_before : (before : ℕ) → 1 ≤ before → before < times
      → position_under_head (clock + before) ≢ position_of (sector_of address)

-- Part of the public promise. Where a word would have cost least: how long the same orders would
-- have taken, had words been at other sectors, and which words may be elsewhere. The place of a
-- word on its track decides, and not the track.
use Rattle.std.specs.Prelude.{ℕ, zero, suc, ◌+◌, ◌-◌, ◌==◌, ◌&&◌, ◌||◌, Bool, true, false}
use Rattle.std.specs.Prelude.{if◌then◌else◌, Option, Some, None}
use Rattle.std.specs.Option.{option_map_or}
use Rattle.lgp_word.specs.Address.{sector_of}
use Rattle.lgp_word.specs.Order.{address_at, op_at}
use Rattle.lgp_word.specs.declared.order.Op.{Op}
use Rattle.lgp_flexo.specs.Tape.{Tape}
use Rattle.lgp_table.specs.After.{after}
use Rattle.lgp_table.specs.Activity.{BegunOrder, act_time, begun_order, find_time, seeks, take_time}
use Rattle.lgp_table.specs.Activity.{time_alone}
use Rattle.lgp_table.specs.State.{Core, State}
use Rattle.lgp_table.specs.Wait.{wait}
use Rattle.lgp_table.specs.declared.panel.Status.{Status}
use Rattle.lgp_history.specs.Hits.{changes}
use Rattle.lgp_trace.specs.Account.{found_of, place_of}
use Rattle.lgp_optimum.specs.declared.uses.Freedom.{Freedom}
use Rattle.lgp_optimum.specs.declared.uses.Freedom.TheVariants as freedoms

-- ---- words at other sectors

-- the sectors at which orders find the words of the drum, by address: these, but for one word that
-- they find at another
abbrev pub with_sector : (ℕ → ℕ) → ℕ → ℕ → ℕ → ℕ
with_sector sectors word sector address = if address == word then sector else sectors address

-- one word at another sector, and all others at their own
abbrev pub moved : ℕ → ℕ → ℕ → ℕ
moved word sector = with_sector sector_of word sector

-- seek, with the words at these sectors
abbrev pub seek_time_with : (ℕ → ℕ) → Op → ℕ → ℕ → ℕ
seek_time_with sectors op m clock = if seeks op then wait (sectors m) clock else 1

-- all four phases, or the last one alone
abbrev pub time_with : (ℕ → ℕ) → Option BegunOrder → Status → Tape → ℕ → ℕ
time_with sectors None status tape clock = time_alone status tape
time_with sectors (Some order) status tape clock =
    let fetching = find_time order.place clock + take_time order.place in
    fetching + (seek_time_with sectors (op_at order.word) (address_at order.word) (clock + fetching)
    + act_time (op_at order.word) (address_at order.word) tape)

-- the word times of the activity that begins here at a clock
unfoldable pub cost_with : (ℕ → ℕ) → Core → ℕ → ℕ
cost_with sectors core clock =
    time_with sectors (begun_order core) core.panel.status core.tape clock

-- the clock after a given number of orders from a state on, the same ones, with the words at these
-- sectors
unfoldable pub clock_with : (ℕ → ℕ) → State → ℕ → ℕ
clock_with sectors s zero = s.clock
clock_with sectors s (suc count) =
    let clock = clock_with sectors s count in
    clock + cost_with sectors (after s count).core clock

-- how long these orders would have taken, had those that waited for a word found it at a sector; as
-- an order the word is found where it is
abbrev pub took_with : State → ℕ → ℕ → ℕ → ℕ
took_with s count word sector = clock_with (moved word sector) s count - s.clock

-- ---- words that may be elsewhere

-- whether one of a given number of orders from a state on passes a test
unfoldable pub some_order : (State → Bool) → State → ℕ → Bool
some_order test s zero = false
some_order test s (suc count) = some_order test s count || test (after s count)

-- whether the order that begins here is at an address
abbrev pub stands_at : ℕ → State → Bool
stands_at address now = option_map_or (λ place. place == address) (place_of now) false

-- whether it waits for the word at an address
abbrev pub names : ℕ → State → Bool
names address now = option_map_or (λ found. found.address == address) (found_of now) false

-- whether one of a given number of orders was at an address, or left another word there
abbrev pub is_performed : State → ℕ → ℕ → Bool
is_performed s count address = some_order (stands_at address) s count

abbrev pub is_changed : State → ℕ → ℕ → Bool
is_changed s count address = some_order (λ now. changes now address) s count

-- whether one of them waited for the word there
abbrev pub is_named : State → ℕ → ℕ → Bool
is_named s count address = some_order (names address) s count

-- whether an order is not the one that the drum has there at the start: one of a given number of
-- orders changes it, or it is in the instruction register alone
abbrev pub is_other_order : State → ℕ → Option ℕ → Bool
is_other_order s count None = true
is_other_order s count (Some place) = is_changed s count place

-- whether such an order waited for the word there
abbrev pub is_named_by_other : State → ℕ → ℕ → Bool
is_named_by_other s count address =
    some_order (λ now. names address now && is_other_order s count (place_of now)) s count

-- whether a word may be elsewhere, by whether an order waited for it, whether it was performed as an
-- order itself, and whether a changed order or one in the register alone waited for it
abbrev pub freedom : Bool → Bool → Bool → Freedom
freedom false false by_other = freedoms.Unnamed
freedom false true by_other = freedoms.Performed
freedom true true by_other = freedoms.Performed
freedom true false true = freedoms.NamedByChanged
freedom true false false = freedoms.Free

-- the same of the word at an address, by a given number of orders from a state on
abbrev pub freedom_of : State → ℕ → ℕ → Freedom
freedom_of s count address =
    freedom (is_named s count address) (is_performed s count address)
    (is_named_by_other s count address)

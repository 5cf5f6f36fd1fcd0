-- Part of the public promise: what an order would take if it were the next one at this clock, as a
-- record. Nothing is performed.
use Rattle.std.specs.Prelude.{ℕ, ◌+◌, ◌++◌, Bool, if◌then◌else◌, Some, List, [], ◌∷◌, codes}
use Rattle.lgp_word.specs.Address.{address_after, sector_of}
use Rattle.lgp_word.specs.Digits.{address_digits}
use Rattle.lgp_word.specs.Order.{address_at, op_at, sign_of}
use Rattle.lgp_word.specs.declared.order.Op.{Op}
use Rattle.lgp_word.specs.declared.order.Op.TheVariants.{U, T}
use Rattle.lgp_table.specs.Activity.{act_time, find_time, seek_time}
use Rattle.lgp_table.specs.Rows.{transfers}
use Rattle.lgp_table.specs.State.{Core, State, word_at}
use Rattle.lgp_table.specs.Wait.{wait}
use Rattle.lgp_table.specs.declared.panel.Panel.{Panel}
use Rattle.lgp_table.specs.declared.panel.Status.TheVariants.{Going}
use Rattle.lgp_fields.specs.Plain.{PlainField, field, Number, Text}
use Rattle.lgp_data.specs.Words.{name_of, performed_order}

-- the machine as it would be if its next order were the one at an address
abbrev pub going_at : ℕ → Core → Core
going_at place core =
    record core { panel = record core.panel { counter = place; status = Going } }

-- ---- the word times of the order at an address, in four phases, from a clock on

abbrev pub find_at : ℕ → ℕ → ℕ
find_at place clock = find_time (Some place) clock

abbrev pub seek_at : Core → ℕ → ℕ → ℕ
seek_at core place clock =
    let word = word_at core place in
    seek_time (op_at word) (address_at word) (clock + (find_at place clock + 1))

abbrev pub act_at : Core → ℕ → ℕ
act_at core place =
    let word = word_at core place in act_time (op_at word) (address_at word) core.tape

abbrev pub sum_at : Core → ℕ → ℕ → ℕ
sum_at core place clock = find_at place clock + 1 + (seek_at core place clock + act_at core place)

-- ---- the order that comes after it, where the machine goes on

abbrev pub place_after : Op → Bool → ℕ → ℕ → Panel → ℕ
place_after U minus address place panel = address
place_after T minus address place panel =
    if transfers panel minus then address else address_after place
place_after op minus address place panel = address_after place

abbrev pub next_at : Core → ℕ → ℕ
next_at core place =
    let word = word_at core place in
    place_after (op_at word) (sign_of word) (address_at word) place core.panel

-- ---- the record

unfoldable pub order_fields : List (List ℕ × ℕ) → ℕ → ℕ → List PlainField
order_fields names place word =
    field (codes "address") (Text (address_digits place))
    ∷ field (codes "label") (name_of names place)
    ∷ field (codes "order") (performed_order word)
    ∷ []

-- the four phases, of which the second takes one word time, and their sum
abbrev pub phases_seen : ℕ → ℕ → ℕ → ℕ → List PlainField
phases_seen find seek act sum =
    field (codes "find") (Number find)
    ∷ field (codes "take") (Number 1)
    ∷ field (codes "seek") (Number seek)
    ∷ field (codes "act") (Number act)
    ∷ field (codes "sum") (Number sum)
    ∷ []

unfoldable pub phase_fields : Core → ℕ → ℕ → List PlainField
phase_fields core place clock =
    phases_seen (find_at place clock) (seek_at core place clock) (act_at core place)
    (sum_at core place clock)

-- the next order, and how long the drum would keep it waiting
unfoldable pub next_fields : List (List ℕ × ℕ) → ℕ → ℕ → List PlainField
next_fields names next clock =
    field (codes "next") (Text (address_digits next))
    ∷ field (codes "next-label") (name_of names next)
    ∷ field (codes "next-find") (Number (wait (sector_of next) clock))
    ∷ []

unfoldable pub cost_record : List (List ℕ × ℕ) → State → ℕ → List PlainField
cost_record names s place =
    order_fields names place (word_at s.core place)
    ++ (phase_fields s.core place s.clock
    ++ next_fields names (next_at s.core place) (s.clock + sum_at s.core place s.clock))

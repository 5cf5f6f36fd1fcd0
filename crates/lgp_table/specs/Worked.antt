-- Part of the public promise. How worked orders are written down: addresses by track and sector,
-- order words by their letter, tapes by their codes, and how an order begins.
use Rattle.std.specs.Prelude.{◌≡◌, ℕ, ◌+◌, ◌*◌, true, List, [], ◌∷◌}
use Rattle.lgp_word.specs.Drum.{track_size}
use Rattle.lgp_word.specs.Order.{order_word, plain_order}
use Rattle.lgp_word.specs.declared.order.Op.{Op}
use Rattle.lgp_word.specs.declared.order.Op.TheVariants.{T}
use Rattle.lgp_flexo.specs.Tape.{Tape}
use Rattle.lgp_table.specs.State.{State, word_at}
use Rattle.lgp_table.specs.declared.panel.Status.TheVariants.{Going}
use Rattle.lgp_table.specs.declared.panel.Mode.TheVariants.{Normal}

-- the address at a track and a sector
abbrev pub at : ℕ → ℕ → ℕ
at track sector = track_size * track + sector

-- an order word: the letter, and the track and the sector of the address
abbrev pub order : Op → ℕ → ℕ → ℕ
order op track sector = plain_order op (at track sector)

-- a t with a minus
abbrev pub minus_t : ℕ → ℕ → ℕ
minus_t track sector = order_word (record { minus = true; op = T; address = at track sector })

-- a tape in a reader that is on, of which nothing has passed yet
abbrev pub tape_to_read : List ℕ → Tape
tape_to_read codes = record { on = true; passed = []; left = codes }

-- the codes of 1 2, a carriage return (which is skipped) and 3, and the same with a conditional
-- stop after them
abbrev pub unended_tape : List ℕ
unended_tape = 6 ∷ 10 ∷ 16 ∷ 14 ∷ []

abbrev pub worked_tape : List ℕ
worked_tape = 6 ∷ 10 ∷ 16 ∷ 14 ∷ 32 ∷ []

-- At this clock the machine, in Normal, begins the order at the counter, and this is its word.
abbrev pub Begins : State → ℕ → ℕ → ℕ → Type 0
Begins s clock counter word =
    (s.clock ≡ clock) × (s.core.panel.status ≡ Going) × (s.core.panel.mode ≡ Normal)
    × (s.core.panel.counter ≡ counter)
    × (word_at s.core counter ≡ word)

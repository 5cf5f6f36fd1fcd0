-- Serves proofs only: what is recorded of a step and of the state before it, and how a state is
-- taken back with it.
use Rattle.std.specs.Prelude.{ℕ, ◌+◌, ◌==◌, ◌&&◌, ◌||◌, Bool, true, false, not, if◌then◌else◌}
use Rattle.std.specs.Prelude.{nat_le, nat_lt, List, [], ◌∷◌, length, Option, Some, None, is_some}
use Rattle.std.specs.Prelude.{slice_index}
use Rattle.lgp_word.specs.Word.{stored}
use Rattle.lgp_word.specs.Address.{address_after}
use Rattle.lgp_word.specs.Order.{address_at, op_at, with_address_of}
use Rattle.lgp_word.specs.declared.order.Op.{Op}
use Rattle.lgp_word.specs.declared.order.Op.TheVariants.{Y, R, H, C}
use Rattle.lgp_flexo.specs.Tape.{all_codes}
use Rattle.lgp_table.specs.State.{Core, State, with_word, word_at}
use Rattle.lgp_table.specs.Activity.{BegunOrder, begun_order}
use Rattle.lgp_machine.specs.Marks.{mark_of, state_at_mark, with_tape_at}
use Rattle.lgp_machine.specs.declared.mark.Mark.{Mark}
use Rattle.lgp_history.specs.Steps.{first_state, is_order}
use Rattle.lgp_history.specs.Hits.{is_going}
use Rattle.lgp_history.specs.declared.origin.Changer.{Changer}
use Rattle.lgp_history.specs.declared.origin.Changer.TheVariants.{Order, Hand}
use Rattle.lgp_history.specs.declared.origin.PastOrder.{PastOrder}
use Rattle.lgp_history.specs.declared.rule.Rule.{Rule}
use Rattle.lgp_history.specs.declared.rule.Rule.TheVariants.{At, Changed}
use Rattle.lgp_history.specs.Step.{KeptStep, Step, Perform, Mount, Put, step_from}

-- the word that is lost where another is stored at this address: none where the same word is stored
abbrev pub lost_word : Core → ℕ → ℕ → Option (ℕ × ℕ)
lost_word core address word =
    if word_at (with_word core address word) address == word_at core address then None
    else Some (address, word_at core address)

-- the word that an order loses
abbrev pub lost_by : Op → ℕ → Core → Option (ℕ × ℕ)
lost_by Y m core =
    lost_word core m (with_address_of (word_at core m) (address_at core.panel.accumulator))
lost_by R m core =
    lost_word core m (with_address_of (word_at core m) (address_after core.panel.counter))
lost_by H m core = lost_word core m (stored core.panel.accumulator)
lost_by C m core = lost_word core m (stored core.panel.accumulator)
lost_by _ m core = None

abbrev pub lost_by_order : ℕ → Core → Option (ℕ × ℕ)
lost_by_order word core = lost_by (op_at word) (address_at word) core

-- the word that an activity loses by its order, if it has one
abbrev pub lost_in : Option BegunOrder → Option (ℕ × ℕ)
lost_in None = None
lost_in (Some order) = lost_by_order order.word order.core

-- what is recorded: the step, the mark of the state before it, the word that it loses, and the tape
-- that it takes out
pub record Recorded : Type 0 where
  pub step : Step
  pub mark : Mark
  pub lost : Option (ℕ × ℕ)
  pub tape : Option (List ℕ)

-- the tape that is taken out, where nothing is said of one there is none
abbrev pub tape_or_none : Option (Option (List ℕ)) → Option (List ℕ)
tape_or_none None = None
tape_or_none (Some tape) = tape

-- whether a lost word can be put back: there is another one in its place
abbrev pub can_restore : Option (ℕ × ℕ) → List ℕ → Bool
can_restore None words = true
can_restore (Some (address, word)) words =
    nat_lt address (length words) && not (slice_index words address == word)

-- whether it is the word at this address that is lost
abbrev pub loses_at : Option (ℕ × ℕ) → ℕ → Bool
loses_at None address = false
loses_at (Some (lost, word)) address = lost == address

-- the word that is lost at this address
abbrev pub lost_at : Option (ℕ × ℕ) → ℕ → Option ℕ
lost_at None address = None
lost_at (Some (lost, word)) address = if lost == address then Some word else None

abbrev pub with_tape : Option (List ℕ) → ℕ → State → State
with_tape None passed s = s
with_tape (Some codes) passed s = with_tape_at s codes passed

-- a step of which nothing is said is an order
abbrev pub step_or_order : Option Step → Step
step_or_order None = Perform
step_or_order (Some step) = step

-- the word that a step loses, and the tape that it takes out
abbrev pub lost_of : Step → State → Option (ℕ × ℕ)
lost_of Perform s = lost_in (begun_order s.core)
lost_of (Put address word) s = lost_word s.core address word
lost_of _ s = None

abbrev pub tape_of : Step → State → Option (List ℕ)
tape_of (Mount codes) s = Some (all_codes s.core.tape)
tape_of _ s = None

-- what is recorded of a step and of the state before it
abbrev pub recorded : Step → State → Recorded
recorded step s = record {
  step = step;
  mark = mark_of s;
  lost = lost_of step s;
  tape = tape_of step s;
}

-- whether a state can be the one after the step
abbrev pub belongs : Recorded → State → Bool
belongs r s =
    nat_le r.mark.printed (length s.printed)
    && (is_some r.tape || nat_le r.mark.passed (length s.core.tape.passed))
    && can_restore r.lost s.core.words

-- the state before the step; for a state that cannot be the one after it, one from which no step
-- leads there
abbrev pub undone : Recorded → State → State
undone r s =
    if belongs r s then state_at_mark (with_tape r.tape r.mark.passed s) r.mark r.lost
    else record s { clock = s.clock + 1 }

-- how many of the recorded steps are orders
abbrev pub orders_recorded : List Recorded → ℕ
orders_recorded [] = 0
orders_recorded (r ∷ later) = (if is_order r.step then 1 else 0) + orders_recorded later

-- where and when the recorded order began which was in the register after it, a given number of
-- orders back
abbrev pub recorded_order : Recorded → ℕ → ℕ → PastOrder
recorded_order r register orders_back = record {
  place = if is_going r.mark.panel.status then Some r.mark.panel.counter else None;
  word = register;
  clock = r.mark.clock;
  orders_back = orders_back;
}

-- what did the recorded step
abbrev pub recorded_changer : Recorded → ℕ → ℕ → Changer
recorded_changer r register orders_back =
    if is_order r.step then Order (recorded_order r register orders_back)
    else Hand r.mark.clock

-- whether a rule hits the recorded order, read off what is recorded
abbrev pub is_recorded_hit : Recorded → Rule → Bool
is_recorded_hit r (At address) = is_going r.mark.panel.status && (r.mark.panel.counter == address)
is_recorded_hit r (Changed address) = loses_at r.lost address

-- the kept steps that the records and the present state stand for
abbrev pub read : List Recorded → State → List KeptStep
read [] now = []
read (r ∷ later) now =
    step_from (undone r (first_state (read later now) now)) r.step ∷ read later now

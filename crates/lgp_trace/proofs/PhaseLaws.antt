-- The four phases together, and where the head is at their ends.
use Rattle.std.proofs.Common.{◌≡◌, ℕ, ◌+◌, ◌-◌, Option, true, false, Some, None, option_map, refl, ap, arith, cond}
use Rattle.std.proofs.lemmas.Option.{none-some, same_Some}
use Rattle.lgp_word.specs.declared.order.Op.{Op}
use Rattle.lgp_word.specs.Address.{sector_of}
use Rattle.lgp_word.specs.Order.{address_at, op_at}
use Rattle.lgp_flexo.specs.Tape.{Tape}
use Rattle.lgp_table.specs.State.{Core, State, word_at}
use Rattle.lgp_table.specs.Activity.{BegunOrder, cost, cost_at, find_time, next, place_in, seek_time, seeks, take_time, time_of}
use Rattle.lgp_table.specs.Wait.{wait}
use Rattle.lgp_table.specs.declared.panel.Status.{Status}
use Rattle.lgp_trace.specs.Account.{account_of, operand_in, place_of, sought_word}
use Rattle.lgp_trace.specs.Phases.{IsFirstRead, all_phases, phases_of, phases_with}
use Rattle.lgp_trace.specs.declared.account.Found.{Found}
use Rattle.lgp_trace.specs.declared.account.Operand.{Operand}

phases_with-time : (order : Option BegunOrder) (status : Status) (tape : Tape) (clock : ℕ)
    → all_phases (phases_with order status tape clock) ≡ time_of order status tape clock
phases_with-time None status tape clock = omega arith
phases_with-time (Some order) status tape clock = omega arith

pub phases_cost : (s : State) → all_phases (phases_of s) ≡ cost s
unfolding phases_of cost_at
phases_cost s = phases_with-time _ _ _ _

-- with the first three and the cost the last one is known
pub phases_last : (s : State) → cost s - ((phases_of s).find + (phases_of s).take + (phases_of s).seek) ≡ (phases_of s).act
phases_last s = omega (arith, phases_cost s)

-- a wait ends when the head has read the sector, and not before
wait_read : (address clock : ℕ) → IsFirstRead address clock (wait (sector_of address) clock)
wait_read address clock = record {
  some = omega arith;
  read = omega arith;
  not_before = λ before some less same. omega arith;
}

seek_time-wait : (op : Op) (m clock : ℕ) → seeks op ≡ true → seek_time op m clock ≡ wait (sector_of m) clock
unfolding seek_time
seek_time-wait op m clock e = rw e refl

place-read : (order : Option BegunOrder) (status : Status) (tape : Tape) (clock place : ℕ)
    → place_in order ≡ Some place → IsFirstRead place clock (phases_with order status tape clock).find
place-read None status tape clock place e = absurd (none-some place e)
place-read (Some order) status tape clock place e = rw e (wait_read _ _)

pub order_read : (s : State) (place : ℕ) → place_of s ≡ Some place → IsFirstRead place s.clock (phases_of s).find
unfolding phases_of
order_read s place e = place-read _ _ _ _ _ e

-- an order with an operand waits for the word at its address
operand-sought : (order : ℕ) (core after : Core) (operand : Operand) → option_map (operand_in after) (sought_word (Some order) core) ≡ Some operand
    → (seeks (op_at order) ≡ true) × (address_at order ≡ operand.address)
operand-sought order core after operand =
    let found : Found = record { address = address_at order; word = word_at core (address_at order) } in
    elim (seeks (op_at order)) as (λ b. seeks (op_at order) ≡ b → option_map (operand_in after) (cond b (Some found) None) ≡ Some operand → (seeks (op_at order) ≡ true) × (address_at order ≡ operand.address))
    [ true ↦ λ is e. (is, ap (λ (o : Operand). o.address) (same_Some (operand_in after found) operand e)) | false ↦ λ is e. absurd (none-some operand e) ] refl

-- the third phase of an order with an operand, from whatever clock it begins
seek-read : (order clock : ℕ) (core after : Core) (operand : Operand) → option_map (operand_in after) (sought_word (Some order) core) ≡ Some operand
    → IsFirstRead operand.address clock (seek_time (op_at order) (address_at order) clock)
seek-read order clock core after operand e =
    grind (arith, operand-sought, seek_time-wait, wait_read)

found-read : (order : Option BegunOrder) (status : Status) (tape : Tape) (core after : Core) (clock : ℕ) (operand : Operand)
    → option_map (operand_in after) (sought_word (option_map (λ o. o.word) order) core) ≡ Some operand
    → IsFirstRead operand.address (clock + (phases_with order status tape clock).find + (phases_with order status tape clock).take)
    (phases_with order status tape clock).seek
found-read None status tape core after clock operand e = absurd (none-some operand e)
found-read (Some order) status tape core after clock operand e =
    let find = find_time order.place clock in
    let take = take_time order.place in
    let begin : clock + find + take ≡ clock + (find + take) = omega arith in
    rw begin (seek-read _ _ core after _ e)

pub operand_read : (s : State) (operand : Operand) → (account_of s).operand ≡ Some operand
    → IsFirstRead operand.address (s.clock + (phases_of s).find + (phases_of s).take) (phases_of s).seek
unfolding phases_of
operand_read s operand e =
    found-read _ _ _ _ (next s).core _ _ e

-- What orders take for a word at a sector, one order after another.
use Rattle.std.proofs.Common.{◌≡◌, ◌≢◌, ◌∙◌, ℕ, zero, suc, ◌+◌, ◌*◌, ◌==◌, ◌&&◌, inl, inr, Bool, true, false, true≢false, Option, Some, None, IfSome, option_map, cond, ap, refl, sym, arith}
use Rattle.std.proofs.lemmas.Bool.{eqb-true}
use Rattle.std.proofs.lemmas.Bool.Decides.{nat_tests}
use Rattle.lgp_word.specs.Address.{sector_of}
use Rattle.lgp_word.specs.Order.{address_at, op_at}
use Rattle.lgp_word.specs.declared.order.Op.{Op}
use Rattle.lgp_table.specs.After.{after}
use Rattle.lgp_table.specs.State.{Core, State, word_at}
use Rattle.lgp_table.specs.Activity.{BegunOrder, act_time, begun_in, begun_order, cost_at, find_time, next, place_in, seek_time, seeks, take_time, time_of}
use Rattle.lgp_table.specs.Console.{is_at_rest}
use Rattle.lgp_table.specs.Wait.{wait}
use Rattle.lgp_table.specs.declared.panel.Status.{Status}
use Rattle.lgp_table.specs.declared.panel.Status.TheVariants.{Halted, Going, Executing, Waiting, Reading}
use Rattle.lgp_trace.specs.Account.{place_of, sought_word}
use Rattle.lgp_optimum.specs.Optimum.{clock_with, cost_with, moved, time_with}
use Rattle.lgp_optimum.specs.OptimumKept.{last_seek, seek_after, seek_of, wait_of}
use Rattle.lgp_trace.specs.Phases.{phases_of, phases_with}
use Rattle.lgp_trace.specs.declared.phases.Phases.{Phases}
use Rattle.lgp_optimum.specs.TurnsInside.{is_last_late, is_late, one_turn_if}
use Rattle.lgp_optimum.specs.declared.optimum.Seek.{Seek}
use Rattle.lgp_optimum.proofs.MovedClocks.{GoesOrRests, fetched_at, goes_later, wait_later, wait_same}

-- ---- where the last order ends

-- the clock at which an order ends that waited so
abbrev pub EndsAt : Option Seek → ℕ → Type 0
EndsAt last clock = IfSome last (λ seek. clock ≡ seek.begun + wait (sector_of seek.word) seek.begun + seek.act)

ends_word : (does : Bool) (m w clock find take seek act : ℕ) → (does ≡ true → seek ≡ wait (sector_of m) (clock + (find + take)))
    → EndsAt (seek_after (cond does (Some (record { address = m; word = w })) None) clock (record { find = find; take = take; seek = seek; act = act })) (clock + (find + take + (seek + act)))
ends_word true m w clock find take seek act is =
    let begin : clock + find + take ≡ clock + (find + take) = omega arith in
    let waits : wait (sector_of m) (clock + find + take) ≡ seek = ap (wait (sector_of m)) begin ∙ sym (is refl) in
    omega (arith, waits)
ends_word false m w clock find take seek act is = tt

seek_time-waits : (op : Op) (m clock : ℕ) → seeks op ≡ true → seek_time op m clock ≡ wait (sector_of m) clock
unfolding seek_time
seek_time-waits op m clock e = rw e refl

ends_order : (order : Option BegunOrder) (status : Status) (core : Core) (clock : ℕ)
    → EndsAt (seek_after (sought_word (option_map (λ (o : BegunOrder). o.word) order) core) clock (phases_with order status core.tape clock)) (clock + time_of order status core.tape clock)
ends_order None status core clock = tt
ends_order (Some order) status core clock =
    let op = op_at order.word in
    let m = address_at order.word in
    let find = find_time order.place clock in
    let take = take_time order.place in
    ends_word (seeks op) m (word_at core m) clock find take (seek_time op m (clock + (find + take))) (act_time op m core.tape)
    (seek_time-waits op m (clock + (find + take)))

seek_ends : (now : State) → EndsAt (seek_of now) (next now).clock
unfolding phases_of cost_at
seek_ends now = ends_order (begun_order now.core) now.core.panel.status now.core now.clock

pub last_ends : (s : State) (count : ℕ) → EndsAt (last_seek s count) (after s count).clock
unfolding last_seek after
last_ends s zero = tt
last_ends s (suc count) = seek_ends (after s count)

-- ---- until the next order is found

-- by numbers: the one clock is whole turns from the other, less or more what the word's two waits differ by, and its order ends the wait
caught : (place one own clock ours begun act turns own_turns : ℕ)
    → one + (64 * own_turns + wait own begun) ≡ clock + (64 * turns + wait ours begun) → clock ≡ begun + wait own begun + act
    → one + wait place one + 64 * (own_turns + one_turn_if (is_late (wait place (begun + act)) begun own))
    ≡ clock + wait place clock + 64 * (turns + one_turn_if (is_late (wait place (begun + act)) begun ours))
caught place one own clock ours begun act turns own_turns shares ends =
    let their_wait : wait place one ≡ wait place (begun + act + wait ours begun) = wait_same place one (begun + act + wait ours begun) (omega arith) in
    let our_wait : wait place clock ≡ wait place (begun + act + wait own begun) = wait_same place clock (begun + act + wait own begun) (omega arith) in
    let their_later = wait_later place (begun + act) (wait ours begun) (omega arith) (omega arith) in
    let our_later = wait_later place (begun + act) (wait own begun) (omega arith) (omega arith) in
    grind (arith, nat_tests, their_wait, our_wait, their_later, our_later, shares, ends)

apart : (place one clock turns own_turns : ℕ) → one + 64 * own_turns ≡ clock + 64 * turns
    → one + (wait place one + 1) + 64 * own_turns ≡ clock + (wait place clock + 1) + 64 * turns
apart place one clock turns own_turns shares =
    let same : wait place one ≡ wait place clock = wait_same place one clock (omega arith) in
    omega (arith, same, shares)

found_some : (is : Bool) (seek : Seek) (place word sector one clock turns own_turns : ℕ) → (is ≡ true → seek.word ≡ word)
    → one + (64 * own_turns + cond is (wait (sector_of word) seek.begun) 0) ≡ clock + (64 * turns + cond is (wait sector seek.begun) 0)
    → clock ≡ seek.begun + wait (sector_of seek.word) seek.begun + seek.act
    → one + (wait (sector_of place) one + 1) + 64 * (own_turns + one_turn_if (is && is_late (wait (sector_of place) (seek.begun + seek.act)) seek.begun (sector_of word)))
    ≡ clock + (wait (sector_of place) clock + 1) + 64 * (turns + one_turn_if (is && is_late (wait (sector_of place) (seek.begun + seek.act)) seek.begun sector))
found_some true seek place word sector one clock turns own_turns same shares ends =
    let own : clock ≡ seek.begun + wait (sector_of word) seek.begun + seek.act =
    ends ∙ ap (λ (n : ℕ). seek.begun + wait (sector_of n) seek.begun + seek.act) (same refl) in
    omega (arith, caught (sector_of place) one (sector_of word) clock sector seek.begun seek.act turns own_turns shares own)
found_some false seek place word sector one clock turns own_turns same shares ends =
    omega (arith, apart (sector_of place) one clock turns own_turns (omega (arith, shares)))

found_shares : (last : Option Seek) (place : Option ℕ) (word sector one clock turns own_turns : ℕ)
    → one + (64 * own_turns + wait_of last word (sector_of word)) ≡ clock + (64 * turns + wait_of last word sector)
    → EndsAt last clock → (place ≡ None → last ≡ None)
    → fetched_at place one + 64 * (own_turns + one_turn_if (is_last_late last place word (sector_of word)))
    ≡ fetched_at place clock + 64 * (turns + one_turn_if (is_last_late last place word sector))
found_shares None None word sector one clock turns own_turns shares ends placed = omega (arith, shares)
found_shares None (Some place) word sector one clock turns own_turns shares ends placed =
    omega (arith, apart (sector_of place) one clock turns own_turns (omega (arith, shares)))
found_shares (Some seek) None word sector one clock turns own_turns shares ends placed =
    let none : Some seek ≡ None = placed refl in
    cc
found_shares (Some seek) (Some place) word sector one clock turns own_turns shares ends placed =
    found_some (seek.word == word) seek place word sector one clock turns own_turns (eqb-true seek.word word) shares ends

-- ---- the wait for the word, and what follows

word_shares : (does is : Bool) (m word sector one clock begun act turns own_turns : ℕ) → (is ≡ true → m ≡ word) → begun ≡ clock
    → one + 64 * own_turns ≡ clock + 64 * turns
    → one + (cond does (wait (cond is sector (sector_of m)) one) 1 + act) + (64 * own_turns + cond does (cond is (wait (sector_of word) begun) 0) 0)
    ≡ clock + (cond does (wait (sector_of m) clock) 1 + act) + (64 * turns + cond does (cond is (wait sector begun) 0) 0)
word_shares false is m word sector one clock begun act turns own_turns same here shares = omega (arith, shares)
word_shares true true m word sector one clock begun act turns own_turns same here shares =
    let moved_wait : wait sector one ≡ wait sector clock = wait_same sector one clock (omega arith) in
    let moved_begun : wait sector begun ≡ wait sector clock = ap (wait sector) here in
    let own_begun : wait (sector_of word) begun ≡ wait (sector_of m) clock =
    ap (wait (sector_of word)) here ∙ ap (λ (n : ℕ). wait (sector_of n) clock) (sym (same refl)) in
    omega (arith, shares, moved_wait, moved_begun, own_begun)
word_shares true false m word sector one clock begun act turns own_turns same here shares =
    let waits : wait (sector_of m) one ≡ wait (sector_of m) clock = wait_same (sector_of m) one clock (omega arith) in
    omega (arith, shares, waits)

wait_of-after : (does : Bool) (m w clock : ℕ) (phases : Phases) (word sector : ℕ)
    → wait_of (seek_after (cond does (Some (record { address = m; word = w })) None) clock phases) word sector
    ≡ cond does (cond (m == word) (wait sector (clock + phases.find + phases.take)) 0) 0
wait_of-after true m w clock phases word sector = refl
wait_of-after false m w clock phases word sector = refl

order_shares : (order : BegunOrder) (status : Status) (core : Core) (word sector one clock turns own_turns : ℕ)
    → fetched_at order.place one + 64 * own_turns ≡ fetched_at order.place clock + 64 * turns
    → one + time_with (moved word sector) (Some order) status core.tape one + (64 * own_turns + wait_of (seek_after (sought_word (Some order.word) core) clock (phases_with (Some order) status core.tape clock)) word (sector_of word))
    ≡ clock + time_of (Some order) status core.tape clock + (64 * turns + wait_of (seek_after (sought_word (Some order.word) core) clock (phases_with (Some order) status core.tape clock)) word sector)
unfolding seek_time
order_shares order status core word sector one clock turns own_turns shares =
    let op = op_at order.word in
    let m = address_at order.word in
    let phases = phases_with (Some order) status core.tape clock in
    let begun : clock + phases.find + phases.take ≡ fetched_at order.place clock = omega arith in
    rw (wait_of-after (seeks op) m (word_at core m) clock phases word (sector_of word), wait_of-after (seeks op) m (word_at core m) clock phases word sector)
    (omega (arith, word_shares (seeks op) (m == word) m word sector (fetched_at order.place one) (fetched_at order.place clock) (clock + phases.find + phases.take) (act_time op m core.tape) turns own_turns (eqb-true m word) begun shares))

shares_next : (order : Option BegunOrder) (status : Status) (core : Core) (last : Option Seek) (word sector one clock turns own_turns : ℕ)
    → one + (64 * own_turns + wait_of last word (sector_of word)) ≡ clock + (64 * turns + wait_of last word sector)
    → EndsAt last clock → (place_in order ≡ None → last ≡ None)
    → (let now = seek_after (sought_word (option_map (λ (o : BegunOrder). o.word) order) core) clock (phases_with order status core.tape clock) in
    one + time_with (moved word sector) order status core.tape one + (64 * (own_turns + one_turn_if (is_last_late last (place_in order) word (sector_of word))) + wait_of now word (sector_of word))
    ≡ clock + time_of order status core.tape clock + (64 * (turns + one_turn_if (is_last_late last (place_in order) word sector)) + wait_of now word sector))
shares_next None status core last word sector one clock turns own_turns shares ends placed =
    omega (arith, found_shares last None word sector one clock turns own_turns shares ends placed)
shares_next (Some order) status core last word sector one clock turns own_turns shares ends placed =
    order_shares order status core word sector one clock _ _ (found_shares last order.place word sector one clock turns own_turns shares ends placed)

-- ---- a run

going_place : (status : Status) (core : Core) → status ≡ Going → place_in (begun_in status core) ≢ None
going_place (Halted cause) core is none = cc
going_place Going core is none = cc
going_place Executing core is none = cc
going_place Waiting core is none = cc
going_place Reading core is none = cc

later_placed : (s : State) (count : ℕ) → GoesOrRests (after s (suc count)).core.panel.status → is_at_rest (after s (suc count)).core.panel.status ≡ false → place_of (after s (suc count)) ≡ None → last_seek s (suc count) ≡ None
later_placed s count (inl going) works none = absurd (going_place _ (after s (suc count)).core going none)
later_placed s count (inr rests) works none = absurd (true≢false (sym rests ∙ works))

-- an order of a run that is nowhere on the drum is its first
placed : (s : State) (count : ℕ) → is_at_rest (after s count).core.panel.status ≡ false → place_of (after s count) ≡ None → last_seek s count ≡ None
unfolding last_seek
placed s zero works none = refl
placed s (suc count) works none = later_placed s count (goes_later s count) works none

pub shares_more : (s : State) (count : ℕ) → is_at_rest (after s count).core.panel.status ≡ false → (last : Option Seek) → last ≡ last_seek s count → (word sector turns own_turns : ℕ)
    → clock_with (moved word sector) s count + (64 * own_turns + wait_of last word (sector_of word)) ≡ (after s count).clock + (64 * turns + wait_of last word sector)
    → (let now = after s count in
    clock_with (moved word sector) s (suc count) + (64 * (own_turns + one_turn_if (is_last_late last (place_of now) word (sector_of word))) + wait_of (seek_of now) word (sector_of word))
    ≡ (after s (suc count)).clock + (64 * (turns + one_turn_if (is_last_late last (place_of now) word sector)) + wait_of (seek_of now) word sector))
unfolding clock_with cost_with after phases_of cost_at
shares_more s count works last is word sector turns own_turns shares =
    let core = (after s count).core in
    shares_next (begun_order core) core.panel.status core last word sector (clock_with (moved word sector) s count) (after s count).clock turns own_turns shares
    (rw is (last_ends s count)) (λ (none : place_of (after s count) ≡ None). is ∙ placed s count works none)

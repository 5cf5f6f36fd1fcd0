-- The same orders with words at other sectors: what depends on where a word is, and what does not.
use Rattle.std.proofs.Common.{◌≡◌, ◌≢◌, ◌∙◌, ℕ, zero, suc, ◌+◌, ◌%◌, ◌≤◌, ◌==◌, ◌&&◌, ◌||◌, ◌⊎◌, inl, inr, Bool, true, false, true≢false, Option, Some, None, is_none, option_map, cond, leb, ap, refl, sym, arith}
use Rattle.std.specs.Option.{option_map_or}
use Rattle.std.proofs.lemmas.Bool.{eqb-true}
use Rattle.std.proofs.lemmas.Bool.Decides.{nat_tests}
use Rattle.lgp_word.specs.Address.{sector_of}
use Rattle.lgp_word.specs.Order.{address_at, op_at}
use Rattle.lgp_word.specs.declared.order.Op.{Op}
use Rattle.lgp_flexo.specs.Tape.{Tape}
use Rattle.lgp_table.specs.After.{after}
use Rattle.lgp_table.specs.State.{Core, State, word_at}
use Rattle.lgp_table.specs.Activity.{BegunOrder, act_time, begun_in, begun_order, core_after, core_after_begun, cost_at, find_time, resume, seek_time, seeks, status_after, status_at_end, take_time, time_alone, time_of}
use Rattle.lgp_table.specs.Console.{is_at_rest}
use Rattle.lgp_table.specs.Rows.{effect_of}
use Rattle.lgp_table.specs.declared.panel.Cause.TheVariants.{Step}
use Rattle.lgp_table.specs.Wait.{wait}
use Rattle.lgp_table.specs.declared.panel.Ending.{Ending}
use Rattle.lgp_table.specs.declared.panel.Ending.TheVariants.{Plain, Stopped, Overflowed, Unfinished}
use Rattle.lgp_table.specs.declared.panel.Mode.{Mode}
use Rattle.lgp_table.specs.declared.panel.Mode.TheVariants.{Normal, OneOperation, Manual}
use Rattle.lgp_table.specs.declared.panel.Status.{Status}
use Rattle.lgp_table.specs.declared.panel.Status.TheVariants.{Halted, Going, Executing, Waiting, Reading}
use Rattle.lgp_trace.specs.Account.{sought_word}
use Rattle.lgp_trace.specs.declared.account.Found.{Found}
use Rattle.lgp_optimum.specs.Optimum.{clock_with, cost_with, is_named, moved, names, seek_time_with, some_order, time_with, with_sector}

-- ---- waits

-- a wait depends on the position under the head alone
pub wait_same : (sector one other : ℕ) → one % 64 ≡ other % 64 → wait sector one ≡ wait sector other
wait_same sector one other same = omega arith

-- after a wait the sector is under the head
pub wait_lands : (sector one other : ℕ) → (one + wait sector one) % 64 ≡ (other + wait sector other) % 64
wait_lands sector one other = omega arith

-- who waits after a given number of word times waits as long less, or a turn more
pub wait_later : (sector clock times : ℕ) → 1 ≤ times → times ≤ 64
    → wait sector (clock + times) + times ≡ wait sector clock + cond (leb (wait sector clock) times) 64 0
wait_later sector clock times least most = grind (arith, nat_tests)

-- ---- the status after an order

resumed : (mode : Mode) → (resume mode ≡ Going) ⊎ (is_at_rest (resume mode) ≡ true)
resumed Normal = inl refl
resumed OneOperation = inr refl
resumed Manual = inr refl

abbrev pub GoesOrRests : Status → Type 0
GoesOrRests status = (status ≡ Going) ⊎ (is_at_rest status ≡ true)

after_ending : (ending : Ending) (on : Status) → GoesOrRests on → GoesOrRests (status_after ending on)
after_ending Plain on goes = goes
after_ending Stopped on goes = inr refl
after_ending Overflowed on goes = inr refl
after_ending Unfinished on goes = inr refl

at_end : (mode : Mode) → GoesOrRests (status_at_end mode)
at_end Normal = inr refl
at_end OneOperation = inr refl
at_end Manual = inr refl

read : (done : Bool) (mode : Mode) → GoesOrRests (cond done (resume mode) (status_at_end mode))
read true mode = resumed mode
read false mode = at_end mode

goes_after : (status : Status) (core : Core) → core.panel.status ≡ status → GoesOrRests (core_after_begun (begun_in status core) status core).panel.status
goes_after (Halted cause) core e = inr (ap is_at_rest e)
goes_after Going core e = after_ending _ _ (resumed core.panel.mode)
goes_after Executing core e = after_ending (effect_of core.panel.register core).ending (Halted Step) (inr refl)
goes_after Waiting core e = inr (ap is_at_rest e)
goes_after Reading core e = read _ core.panel.mode

pub goes_later : (s : State) (count : ℕ) → GoesOrRests (after s (suc count)).core.panel.status
unfolding after core_after
goes_later s count = goes_after (after s count).core.panel.status (after s count).core refl

not_executing : (status : Status) → GoesOrRests status → status ≢ Executing
not_executing status (inl goes) is = cc
not_executing status (inr rests) is = absurd (true≢false (sym rests ∙ ap is_at_rest is))

-- ---- words at their own sectors

seek_time_own : (op : Op) (m clock : ℕ) → seek_time_with sector_of op m clock ≡ seek_time op m clock
unfolding seek_time
seek_time_own op m clock = refl

time_own : (order : Option BegunOrder) (status : Status) (tape : Tape) (clock : ℕ) → time_with sector_of order status tape clock ≡ time_of order status tape clock
time_own None status tape clock = refl
time_own (Some order) status tape clock =
    let fetching = find_time order.place clock + take_time order.place in
    ap (λ (n : ℕ). fetching + (n + act_time (op_at order.word) (address_at order.word) tape)) (seek_time_own (op_at order.word) (address_at order.word) (clock + fetching))

cost_own : (core : Core) (clock : ℕ) → cost_with sector_of core clock ≡ cost_at core clock
unfolding cost_with cost_at
cost_own core clock = time_own _ _ _ _

pub clock_own : (s : State) (count : ℕ) → clock_with sector_of s count ≡ (after s count).clock
unfolding clock_with after
clock_own s zero = refl
clock_own s (suc count) =
    ap (λ (n : ℕ). n + cost_with sector_of (after s count).core n) (clock_own s count)
    ∙ ap (λ (n : ℕ). (after s count).clock + n) (cost_own (after s count).core (after s count).clock)

-- the sectors alone matter, and not how they are given
seek_time_as : (one other : ℕ → ℕ) (op : Op) (m clock : ℕ) → one m ≡ other m → seek_time_with one op m clock ≡ seek_time_with other op m clock
seek_time_as one other op m clock same = ap (λ (n : ℕ). cond (seeks op) (wait n clock) 1) same

time_as : (one other : ℕ → ℕ) (order : Option BegunOrder) (status : Status) (tape : Tape) (clock : ℕ) → ((m : ℕ) → one m ≡ other m) → time_with one order status tape clock ≡ time_with other order status tape clock
time_as one other None status tape clock same = refl
time_as one other (Some order) status tape clock same =
    let fetching = find_time order.place clock + take_time order.place in
    ap (λ (n : ℕ). fetching + (n + act_time (op_at order.word) (address_at order.word) tape))
    (seek_time_as one other (op_at order.word) (address_at order.word) (clock + fetching) (same (address_at order.word)))

clock_as : (one other : ℕ → ℕ) (s : State) (count : ℕ) → ((m : ℕ) → one m ≡ other m) → clock_with one s count ≡ clock_with other s count
unfolding clock_with cost_with
clock_as one other s zero same = refl
clock_as one other s (suc count) same =
    let core = (after s count).core in
    ap (λ (n : ℕ). n + time_with one (begun_order core) core.panel.status core.tape n) (clock_as one other s count same)
    ∙ ap (λ (n : ℕ). clock_with other s count + n) (time_as one other (begun_order core) core.panel.status core.tape (clock_with other s count) same)

moved_own : (word m : ℕ) → moved word (sector_of word) m ≡ sector_of m
moved_own word m =
    elim (m == word) as (λ b. (m == word) ≡ b → cond b (sector_of word) (sector_of m) ≡ sector_of m)
    [ true ↦ λ is. ap sector_of (sym (eqb-true m word is)) | false ↦ λ is. refl ] refl

pub own_sector : (s : State) (count word : ℕ) → clock_with (moved word (sector_of word)) s count ≡ (after s count).clock
own_sector s count word = clock_as _ _ s count (moved_own word) ∙ clock_own s count

-- ---- a word that no order names

pub first_false : (a b : Bool) → (a || b) ≡ false → a ≡ false
first_false true b e = e
first_false false b e = refl

pub second_false : (a b : Bool) → (a || b) ≡ false → b ≡ false
second_false true b e = cc
second_false false b e = e

unnamed_address : (does is : Bool) (sector own clock : ℕ) → (does && is) ≡ false → cond does (wait (cond is sector own) clock) 1 ≡ cond does (wait own clock) 1
unnamed_address true true sector own clock e = cc
unnamed_address true false sector own clock e = refl
unnamed_address false is sector own clock e = refl

pub named_by : (op : Op) (m word : ℕ) (found : Found) → found.address ≡ m → option_map_or (λ (f : Found). f.address == word) (cond (seeks op) (Some found) None) false ≡ (seeks op && (m == word))
named_by op m word found e =
    elim (seeks op) as (λ b. option_map_or (λ (f : Found). f.address == word) (cond b (Some found) None) false ≡ (b && (m == word)))
    [ true ↦ ap (λ (n : ℕ). n == word) e | false ↦ refl ]

unnamed_time : (order : Option BegunOrder) (status : Status) (core : Core) (word sector clock : ℕ)
    → option_map_or (λ (f : Found). f.address == word) (sought_word (option_map (λ (o : BegunOrder). o.word) order) core) false ≡ false
    → time_with (moved word sector) order status core.tape clock ≡ time_with sector_of order status core.tape clock
unnamed_time None status core word sector clock e = refl
unnamed_time (Some order) status core word sector clock e =
    let op = op_at order.word in
    let m = address_at order.word in
    let fetching = find_time order.place clock + take_time order.place in
    let found : Found = record { address = m; word = word_at core m } in
    ap (λ (n : ℕ). fetching + (n + act_time op m core.tape))
    (unnamed_address (seeks op) (m == word) sector (sector_of m) (clock + fetching) (sym (named_by op m word found refl) ∙ e))

pub unnamed_clock : (s : State) (count word sector : ℕ) → is_named s count word ≡ false → clock_with (moved word sector) s count ≡ clock_with sector_of s count
unfolding clock_with cost_with some_order
unnamed_clock s zero word sector e = refl
unnamed_clock s (suc count) word sector e =
    let core = (after s count).core in
    let before : is_named s count word ≡ false = first_false (is_named s count word) (names word (after s count)) e in
    let here : names word (after s count) ≡ false = second_false (is_named s count word) (names word (after s count)) e in
    ap (λ (n : ℕ). n + time_with (moved word sector) (begun_order core) core.panel.status core.tape n) (unnamed_clock s count word sector before)
    ∙ ap (λ (n : ℕ). clock_with sector_of s count + n) (unnamed_time (begun_order core) core.panel.status core word sector (clock_with sector_of s count) here)

pub unnamed : (s : State) (count word sector : ℕ) → is_named s count word ≡ false → clock_with (moved word sector) s count ≡ (after s count).clock
unnamed s count word sector e = unnamed_clock s count word sector e ∙ clock_own s count

-- ---- one word more at another sector

abbrev InTurn : ℕ → ℕ → Type 0
InTurn one other = one % 64 ≡ other % 64

-- The clocks with two groups of words at other sectors, with one of them alone, with the other alone, and with none: what each group
-- saves adds up, and the head is where one of the two alone has it.
record Four (both one other own : ℕ) : Type 0 where
  sum : both + own ≡ one + other
  near : (InTurn both one × InTurn other own) ⊎ (InTurn both other × InTurn one own)

-- the same where the head is at one place in all four
record FourAt (both one other own : ℕ) : Type 0 where
  sum : both + own ≡ one + other
  both_at : InTurn both own
  one_at : InTurn one own
  other_at : InTurn other own

four_more : (both one other own more : ℕ) → Four both one other own → Four (both + more) (one + more) (other + more) (own + more)
four_more both one other own more h = record { sum = omega arith; near = near_more h.near } where
  near_more : (InTurn both one × InTurn other own) ⊎ (InTurn both other × InTurn one own)
      → (InTurn (both + more) (one + more) × InTurn (other + more) (own + more)) ⊎ (InTurn (both + more) (other + more) × InTurn (one + more) (own + more))
  near_more (inl near) = inl (omega arith, omega arith)
  near_more (inr near) = inr (omega arith, omega arith)

abbrev found_at : ℕ → ℕ → ℕ
found_at place clock = clock + (wait (sector_of place) clock + 1)

landed : (place one other : ℕ) → InTurn (found_at place one) (found_at place other)
landed place one other = omega (arith, wait_lands (sector_of place) one other)

sums_found : (place both one other own : ℕ) → both + own ≡ one + other → (InTurn both one × InTurn other own) ⊎ (InTurn both other × InTurn one own)
    → found_at place both + found_at place own ≡ found_at place one + found_at place other
sums_found place both one other own sum (inl near) =
    omega (arith, wait_same (sector_of place) both one near.0, wait_same (sector_of place) other own near.1)
sums_found place both one other own sum (inr near) =
    omega (arith, wait_same (sector_of place) both other near.0, wait_same (sector_of place) one own near.1)

four_found : (place both one other own : ℕ) → Four both one other own
    → FourAt (found_at place both) (found_at place one) (found_at place other) (found_at place own)
four_found place both one other own h = record {
  sum = sums_found place both one other own h.sum h.near;
  both_at = landed place both own;
  one_at = landed place one own;
  other_at = landed place other own;
}

-- a wait for a word at the sector to which it moves, or at one that stays
abbrev sought : Bool → Bool → ℕ → ℕ → ℕ → ℕ
sought does is sector stays clock = cond does (wait (cond is sector stays) clock) 1

four_sought : (does is : Bool) (sector mine its both one other own act : ℕ) → (is ≡ true → mine ≡ its) → FourAt both one other own
    → Four (both + (sought does is sector mine both + act)) (one + (cond does (wait mine one) 1 + act)) (other + (sought does is sector its other + act)) (own + (cond does (wait its own) 1 + act))
four_sought false is sector mine its both one other own act same h = record { sum = sum; near = inl (one_at, other_at) } where
  sum : both + (1 + act) + (own + (1 + act)) ≡ one + (1 + act) + (other + (1 + act))
  sum = omega (arith, h.sum)

  one_at : InTurn (both + (1 + act)) (one + (1 + act))
  one_at = omega (arith, h.both_at, h.one_at)

  other_at : InTurn (other + (1 + act)) (own + (1 + act))
  other_at = omega (arith, h.other_at)
four_sought true true sector mine its both one other own act same h =
    let mine_its : mine ≡ its = same refl in
    let moved_waits : wait sector both ≡ wait sector other = wait_same sector both other (h.both_at ∙ sym h.other_at) in
    let own_waits : wait mine one ≡ wait its own = ap (λ (n : ℕ). wait n one) mine_its ∙ wait_same its one own h.one_at in
    record {
      sum = omega (arith, h.sum, moved_waits, own_waits);
      near = inr (omega (arith, moved_waits, h.both_at, h.other_at), omega (arith, own_waits, h.one_at));
    }
four_sought true false sector mine its both one other own act same h =
    let first : wait mine both ≡ wait mine one = wait_same mine both one (h.both_at ∙ sym h.one_at) in
    let second : wait its other ≡ wait its own = wait_same its other own h.other_at in
    record {
      sum = omega (arith, h.sum, first, second);
      near = inl (omega (arith, first, h.both_at, h.one_at), omega (arith, second, h.other_at));
    }

abbrev pub fetched_at : Option ℕ → ℕ → ℕ
fetched_at place clock = clock + (find_time place clock + take_time place)

four_after : (place : Option ℕ) (both one other own : ℕ) → Four both one other own → (place ≡ None → FourAt both one other own)
    → FourAt (fetched_at place both) (fetched_at place one) (fetched_at place other) (fetched_at place own)
four_after None both one other own h at =
    let here = at refl in
    record {
      sum = omega (arith, here.sum);
      both_at = omega (arith, here.both_at);
      one_at = omega (arith, here.one_at);
      other_at = omega (arith, here.other_at);
    }
four_after (Some place) both one other own h at = four_found place both one other own h

four_is : (a b c d both one other own : ℕ) → both ≡ a → one ≡ b → other ≡ c → own ≡ d → Four a b c d → Four both one other own
four_is a b c d both one other own e f g i h = rw (e, f, g, i) h

abbrev is_unplaced : Option BegunOrder → Bool
is_unplaced None = false
is_unplaced (Some order) = is_none order.place

unplaced_executes : (status : Status) (core : Core) → is_unplaced (begun_in status core) ≡ true → status ≡ Executing
unplaced_executes (Halted cause) core e = cc
unplaced_executes Going core e = cc
unplaced_executes Executing core e = refl
unplaced_executes Waiting core e = cc
unplaced_executes Reading core e = cc

four_next : (order : Option BegunOrder) (status : Status) (tape : Tape) (sectors : ℕ → ℕ) (word sector both one other own : ℕ) → sectors word ≡ sector_of word
    → Four both one other own → (is_unplaced order ≡ true → FourAt both one other own)
    → Four (both + time_with (with_sector sectors word sector) order status tape both) (one + time_with sectors order status tape one)
    (other + time_with (moved word sector) order status tape other) (own + time_with sector_of order status tape own)
four_next None status tape sectors word sector both one other own same h at = four_more both one other own (time_alone status tape) h
four_next (Some order) status tape sectors word sector both one other own same h at =
    let op = op_at order.word in
    let m = address_at order.word in
    let act = act_time op m tape in
    let here : FourAt (fetched_at order.place both) (fetched_at order.place one) (fetched_at order.place other) (fetched_at order.place own) =
    four_after order.place both one other own h (λ (e : order.place ≡ None). at (ap is_none e)) in
    let stays : (m == word) ≡ true → sectors m ≡ sector_of m =
    λ (e : (m == word) ≡ true). ap sectors (eqb-true m word e) ∙ same ∙ ap sector_of (sym (eqb-true m word e)) in
    four_is _ _ _ _ _ _ _ _ (omega arith) (omega arith) (omega arith) (omega arith)
    (four_sought (seeks op) (m == word) sector (sectors m) (sector_of m) (fetched_at order.place both) (fetched_at order.place one) (fetched_at order.place other) (fetched_at order.place own) act stays here)

four_at : (clock : ℕ) → FourAt clock clock clock clock
four_at clock = record { sum = refl; both_at = refl; one_at = refl; other_at = refl }

four_begun : (clock : ℕ) → Four clock clock clock clock
four_begun clock = record { sum = refl; near = inl (refl, refl) }

executing_first : (s : State) (count both one other own : ℕ) → (after s (suc count)).core.panel.status ≡ Executing → FourAt both one other own
executing_first s count both one other own is = absurd (not_executing _ (goes_later s count) is)

four_clocks : (s : State) (count : ℕ) (sectors : ℕ → ℕ) (word sector : ℕ) → sectors word ≡ sector_of word
    → Four (clock_with (with_sector sectors word sector) s count) (clock_with sectors s count) (clock_with (moved word sector) s count) (clock_with sector_of s count)
unfolding clock_with cost_with after
four_clocks s zero sectors word sector same = four_begun s.clock
four_clocks s (suc zero) sectors word sector same =
    four_next (begun_order s.core) s.core.panel.status s.core.tape sectors word sector s.clock s.clock s.clock s.clock same (four_begun s.clock)
    (λ (e : is_unplaced (begun_order s.core) ≡ true). four_at s.clock)
four_clocks s (suc (suc count)) sectors word sector same =
    let core = (after s (suc count)).core in
    four_next (begun_order core) core.panel.status core.tape sectors word sector _ _ _ _ same (four_clocks s (suc count) sectors word sector same)
    (λ (e : is_unplaced (begun_order core) ≡ true). executing_first s count _ _ _ _ (unplaced_executes core.panel.status core e))

pub savings_add : (s : State) (count : ℕ) (sectors : ℕ → ℕ) (word sector : ℕ) → sectors word ≡ sector_of word
    → clock_with (with_sector sectors word sector) s count + (after s count).clock ≡ clock_with sectors s count + clock_with (moved word sector) s count
savings_add s count sectors word sector same = rw (← clock_own s count) (four_clocks s count sectors word sector same).sum

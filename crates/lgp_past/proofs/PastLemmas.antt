-- What a past comes to: its parts, and one step or some orders more.
use Rattle.std.proofs.Common.{◌≡◌, ℕ, zero, suc, ◌+◌, ◌-◌, ◌<◌, ◌≤◌, Bool, true, false, cond, refl, sym, ap, ◌∙◌, subst, arith, List, [], ◌∷◌, ◌++◌, length, take, drop, take_all, length-append, Some, slice_get, lt-ltb, le-ltb, zero-add, drop_of_length-le, get_or, append-nil, ⊎_elim}
use Rattle.std.specs.Prelude.{nat_lt}
use Rattle.std.proofs.lemmas.List.{length-take-le, take-append-le}
use Rattle.std.proofs.lemmas.Bool.{cases_lt, ltb-false}
use Rattle.std.proofs.lemmas.Option.{slice_get-get_or, slice_get_read}
use Rattle.std.specs.Prelude.{All}
use Rattle.std.proofs.lemmas.List.Elements.{All-nil, All-push, All-same, All-take, All-from_get_or, All-get_or}
use Rattle.lgp_table.specs.State.{State}
use Rattle.lgp_table.specs.After.{after}
use Rattle.lgp_table.specs.Interleaving.{Configuration, at_boundary}
use Rattle.lgp_table.proofs.After.{after_none, after_sum}
use Rattle.lgp_machine.specs.Answers.{clock_end}
use Rattle.lgp_history.specs.Step.{Step, Perform}
use Rattle.lgp_history.specs.Steps.{CanStep, stepped}
use Rattle.lgp_past.specs.Past.{CanPerform, Event, Past, Story, after_event, events_until, orders_before, present, state_at, state_from, story_until, with_event, with_orders}
use Rattle.lgp_past.specs.PastInside.{ArePossible, Copied, IsCopied, IsKept, after_events, orders_at}
use Rattle.lgp_past.proofs.Orders.{can_more, can_none, can_rest, can_fewer, clock_passes, clock_stays, orders_few}

abbrev event : ℕ → Step → Event
event orders step = record { orders = orders; step = step }

-- ---- one element of the list

after_events-nil : (s : State) → after_events s [] ≡ s
unfolding after_events
after_events-nil s = refl

-- the event that was read at a place
pub read_at : (items es : List Event) (long place : ℕ) (e : Event) → items ≡ es → long ≡ length items → place < long → e ≡ get_or items place e → slice_get es place ≡ Some e
read_at items es long place e same is within got = subst (λ (ys : List Event). slice_get ys place ≡ Some e) same (slice_get_read items long place e is within got)

-- ---- where a past leads

-- the state from a place on, where a given number of orders are left
pub from_place : (s : State) (es : List Event) (place left : ℕ) → place ≤ length es
    → state_from s es (orders_before (take place es) + left) ≡ state_from (after_events s (take place es)) (drop place es) left
unfolding state_from orders_before after_events
from_place s es zero left within = ap (λ n. state_from s es n) (zero-add left)
from_place s [] (suc place) left within = absurd (omega arith)
from_place s (e ∷ es) (suc place) left within =
    let rest = orders_before (take place es) + left in
    let less : e.orders ≤ e.orders + orders_before (take place es) + left = omega arith in
    let count : e.orders + orders_before (take place es) + left - e.orders ≡ rest = omega arith in
    rw (le-ltb (e.orders + orders_before (take place es) + left) e.orders less)
    (ap (λ n. state_from (after_event s e) es n) count ∙ from_place (after_event s e) es place left (omega arith))

-- fewer orders than come before the next event are all performed from there
pub before_next : (s : State) (es : List Event) (left place : ℕ) (e : Event) → slice_get es place ≡ Some e → left < e.orders
    → state_from s (drop place es) left ≡ after s left
unfolding state_from
before_next s [] left place e is few = cc
before_next s (x ∷ es) left zero e is few = rw (lt-ltb left x.orders (grind arith)) refl
before_next s (x ∷ es) left (suc place) e is few = before_next s es left place e is few

pub after_all : (s : State) (left : ℕ) → state_from s [] left ≡ after s left
unfolding state_from
after_all s left = refl

-- the present state is the one after all events and the orders after them
pub leads_on : (s : State) (es : List Event) (orders : ℕ) → state_from s es (orders_before es + orders) ≡ after (after_events s es) orders
leads_on s es orders =
    let whole : take (length es) es ≡ es = take_all (length es) es (omega arith) in
    ap (λ (ys : List Event). state_from s es (orders_before ys + orders)) (sym whole)
    ∙ from_place s es (length es) orders (omega arith)
    ∙ ap (λ (ys : List Event). state_from (after_events s (take (length es) es)) ys orders) (drop_of_length-le es (omega arith))
    ∙ after_all (after_events s (take (length es) es)) orders
    ∙ ap (λ (ys : List Event). after (after_events s ys) orders) whole

-- the events before an order, from a place on
until_place : (es : List Event) (place left : ℕ) → place ≤ length es
    → events_until es (orders_before (take place es) + left) ≡ take place es ++ events_until (drop place es) left
unfolding events_until orders_before
until_place es zero left within = ap (λ n. events_until es n) (zero-add left)
until_place [] (suc place) left within = absurd (omega arith)
until_place (e ∷ es) (suc place) left within =
    let rest = orders_before (take place es) + left in
    let less : e.orders ≤ e.orders + orders_before (take place es) + left = omega arith in
    let count : e.orders + orders_before (take place es) + left - e.orders ≡ rest = omega arith in
    rw (le-ltb (e.orders + orders_before (take place es) + left) e.orders less)
    (ap (λ n. e ∷ events_until es n) count ∙ ap (λ (ys : List Event). e ∷ ys) (until_place es place left (omega arith)))

until_next : (es : List Event) (left place : ℕ) (e : Event) → slice_get es place ≡ Some e → left < e.orders → events_until (drop place es) left ≡ []
unfolding events_until
until_next [] left place e is few = cc
until_next (x ∷ es) left zero e is few = rw (lt-ltb left x.orders (grind arith)) refl
until_next (x ∷ es) left (suc place) e is few = until_next es left place e is few

until_none : (left : ℕ) → events_until [] left ≡ []
unfolding events_until
until_none left = refl

-- an order that begins before the event at a place, or after all events
module _ (s : State) (es : List Event) (goal place left : ℕ) (is : orders_before (take place es) + left ≡ goal) where
  pub placed_state : (e : Event) → place ≤ length es → slice_get es place ≡ Some e → left < e.orders → state_from s es goal ≡ after (after_events s (take place es)) left
  placed_state e within at few =
      ap (state_from s es) (sym is) ∙ from_place s es place left within ∙ before_next (after_events s (take place es)) es left place e at few

  pub placed_until : (e : Event) → place ≤ length es → slice_get es place ≡ Some e → left < e.orders → events_until es goal ≡ take place es
  placed_until e within at few =
      ap (events_until es) (sym is) ∙ until_place es place left within ∙ ap (λ (ys : List Event). take place es ++ ys) (until_next es left place e at few)
      ∙ append-nil (take place es)

  pub ended_state : place ≡ length es → state_from s es goal ≡ after (after_events s (take place es)) left
  ended_state end =
      ap (state_from s es) (sym is) ∙ from_place s es place left (omega (arith, end))
      ∙ ap (λ (ys : List Event). state_from (after_events s (take place es)) ys left) (drop_of_length-le es (omega (arith, end)))
      ∙ after_all (after_events s (take place es)) left

  pub ended_until : place ≡ length es → events_until es goal ≡ take place es
  ended_until end =
      ap (events_until es) (sym is) ∙ until_place es place left (omega (arith, end))
      ∙ ap (λ (ys : List Event). take place es ++ events_until ys left) (drop_of_length-le es (omega (arith, end)))
      ∙ ap (λ (ys : List Event). take place es ++ ys) (until_none left) ∙ append-nil (take place es)

-- ---- one place further

take-next : (es : List Event) (place : ℕ) (e : Event) → slice_get es place ≡ Some e → take (place + 1) es ≡ take place es ++ e ∷ []
take-next [] place e is = cc
take-next (x ∷ es) zero e is = cc
take-next (x ∷ es) (suc place) e is = grind (arith, take-next es place e is)

after_events-more : (s : State) (es : List Event) (e : Event) → after_events s (es ++ e ∷ []) ≡ after_event (after_events s es) e
unfolding after_events
after_events-more s [] e = refl
after_events-more s (x ∷ es) e = after_events-more (after_event s x) es e

pub orders_before-more : (es : List Event) (e : Event) → orders_before (es ++ e ∷ []) ≡ orders_before es + e.orders
unfolding orders_before
orders_before-more [] e = omega arith
orders_before-more (x ∷ es) e = let rest = orders_before-more es e in omega (arith, rest)

pub after_events-next : (s : State) (es : List Event) (place : ℕ) (e : Event) → slice_get es place ≡ Some e
    → after_events s (take (place + 1) es) ≡ after_event (after_events s (take place es)) e
after_events-next s es place e is = ap (after_events s) (take-next es place e is) ∙ after_events-more s (take place es) e

pub orders_before-next : (es : List Event) (place : ℕ) (e : Event) → slice_get es place ≡ Some e
    → orders_before (take (place + 1) es) ≡ orders_before (take place es) + e.orders
orders_before-next es place e is = ap orders_before (take-next es place e is) ∙ orders_before-more (take place es) e

-- how many orders are before the next event, or the end
pub orders_at-event : (es : List Event) (orders place : ℕ) (e : Event) → slice_get es place ≡ Some e → orders_at es orders place ≡ e.orders
unfolding orders_at
orders_at-event [] orders place e is = cc
orders_at-event (x ∷ es) orders zero e is = grind arith
orders_at-event (x ∷ es) orders (suc place) e is = orders_at-event es orders place e is

pub orders_at-end : (es : List Event) (orders : ℕ) → orders_at es orders (length es) ≡ orders
unfolding orders_at
orders_at-end [] orders = refl
orders_at-end (x ∷ es) orders = orders_at-end es orders

-- ---- what can be done

pub possible_event : (s : State) (es : List Event) (orders place : ℕ) (e : Event) → ArePossible s es orders → slice_get es place ≡ Some e
    → CanPerform (after_events s (take place es)) e.orders × CanStep e.step (after (after_events s (take place es)) e.orders)
unfolding ArePossible after_events
possible_event s [] orders place e can is = cc
possible_event s (x ∷ es) orders zero e can is =
    let same : x ≡ e = grind arith in
    subst (λ (y : Event). CanPerform s y.orders × CanStep y.step (after s y.orders)) same (can.0, can.1)
possible_event s (x ∷ es) orders (suc place) e can is = possible_event (after_event s x) es orders place e can.2 is

pub possible_end : (s : State) (es : List Event) (orders : ℕ) → ArePossible s es orders → CanPerform (after_events s es) orders
unfolding ArePossible after_events
possible_end s [] orders can = can
possible_end s (e ∷ es) orders can = possible_end (after_event s e) es orders can.2

-- one event more
pub possible_step : (s : State) (es : List Event) (orders : ℕ) (step : Step) → ArePossible s es orders → CanStep step (after (after_events s es) orders)
    → ArePossible s (es ++ event orders step ∷ []) 0
unfolding ArePossible after_events
possible_step s [] orders step can this = (can, this, can_none (after_event s (event orders step)))
possible_step s (e ∷ es) orders step can this = (can.0, can.1, possible_step (after_event s e) es orders step can.2 this)

-- some orders more
pub possible_orders : (s : State) (es : List Event) (orders count : ℕ) → ArePossible s es orders → CanPerform (after (after_events s es) orders) count
    → ArePossible s es (orders + count)
unfolding ArePossible after_events
possible_orders s [] orders count can these = can_more s orders count can these
possible_orders s (e ∷ es) orders count can these = (can.0, can.1, possible_orders (after_event s e) es orders count can.2 these)

-- there are no more orders than word times
pub few_orders : (s : State) (es : List Event) (orders : ℕ) → ArePossible s es orders → orders_before es + orders ≤ clock_end - s.clock
unfolding ArePossible orders_before
few_orders s [] orders can = let few = orders_few s orders can in omega (arith, few)
few_orders s (e ∷ es) orders can =
    let few = orders_few s e.orders can.0 in
    let later = few_orders (after_event s e) es orders can.2 in
    let passes = clock_passes s e.orders in
    let stays = clock_stays e.step (after s e.orders) in
    omega (arith, few, later, passes, stays)

-- ---- a copy stays one

orders_at-step : (es : List Event) (orders place : ℕ) (step : Step) → place ≤ length es → orders_at (es ++ event orders step ∷ []) 0 place ≡ orders_at es orders place
unfolding orders_at
orders_at-step [] orders zero step within = refl
orders_at-step [] orders (suc place) step within = absurd (omega arith)
orders_at-step (x ∷ es) orders zero step within = refl
orders_at-step (x ∷ es) orders (suc place) step within = orders_at-step es orders place step (omega arith)

orders_at-more : (es : List Event) (orders count place : ℕ) → orders_at es orders place ≤ orders_at es (orders + count) place
unfolding orders_at
orders_at-more [] orders count place = omega arith
orders_at-more (x ∷ es) orders count zero = omega arith
orders_at-more (x ∷ es) orders count (suc place) = orders_at-more es orders count place

pub copied_step : (first : State) (es : List Event) (orders : ℕ) (step : Step) (copy : Copied) → IsCopied first es orders copy
    → IsCopied first (es ++ event orders step ∷ []) 0 copy
copied_step first es orders step copy is =
    let same : take copy.place (es ++ event orders step ∷ []) ≡ take copy.place es = take-append-le copy.place es (event orders step ∷ []) is.there in
    let longer = length-append es (event orders step ∷ []) in
    record {
      there = let w = is.there in omega (arith, w, longer);
      few = subst (λ n. copy.within ≤ n) (sym (orders_at-step es orders copy.place step is.there)) is.few;
      counted = is.counted ∙ ap (λ ys. orders_before ys + copy.within) (sym same);
      same = is.same ∙ ap (λ ys. at_boundary (after (after_events first ys) copy.within)) (sym same);
    }

pub copied_orders : (first : State) (es : List Event) (orders count : ℕ) (copy : Copied) → IsCopied first es orders copy
    → IsCopied first es (orders + count) copy
copied_orders first es orders count copy is = record {
  there = is.there;
  few = let w = is.few in let m = orders_at-more es orders count copy.place in omega (arith, w, m);
  counted = is.counted;
  same = is.same;
}

-- the machine where the past leads
pub copied_here : (first : State) (es : List Event) (orders : ℕ) (now : Configuration) → now ≡ at_boundary (state_from first es (orders_before es + orders))
    → IsCopied first es orders (record { place = length es; within = orders; orders = orders_before es + orders; machine = now })
copied_here first es orders now is =
    let whole : take (length es) es ≡ es = take_all (length es) es (omega arith) in
    record {
      there = omega arith;
      few = subst (λ n. orders ≤ n) (sym (orders_at-end es orders)) (omega arith);
      counted = ap (λ ys. orders_before ys + orders) (sym whole);
      same = is ∙ ap at_boundary (leads_on first es orders) ∙ ap (λ ys. at_boundary (after (after_events first ys) orders)) (sym whole);
    }

-- ---- what is kept of a past stays so

-- of each element what follows from what holds of it
all_so : (P Q : Copied → Type 0) (copies : List Copied) (any : Copied) → ((copy : Copied) → P copy → Q copy) → All P copies → All Q copies
all_so P Q copies any so all = All-from_get_or Q copies any (λ i within. so (get_or copies i any) (All-get_or P copies i any within all))

pub kept_new : (now : Configuration) → now ≡ at_boundary now.state → IsKept (record { place = 0; within = 0; orders = 0; machine = now }) [] 0 0 []
unfolding ArePossible orders_before orders_at after_events
kept_new now is = record {
  begins = refl;
  at_once = refl;
  first = record {
    there = omega arith;
    few = omega arith;
    counted = refl;
    same = is ∙ ap at_boundary (sym (after_none now.state));
  };
  possible = can_none now.state;
  counted = refl;
  copied = All-nil (IsCopied now.state [] 0);
}

module _ (opening : Copied) (es : List Event) (before later : ℕ) (copies : List Copied) (kept : IsKept opening es before later copies) where
  abbrev first : State
  first = opening.machine.state

  -- there are no more orders than word times
  pub kept_few : before + later ≤ clock_end
  kept_few = let few = few_orders first es later kept.possible in let is = kept.counted in omega (arith, few, is)

  can_here : (count : ℕ) → CanPerform (state_from first es (orders_before es + later)) count → CanPerform (after (after_events first es) later) count
  can_here count can = subst (λ s. CanPerform s count) (leads_on first es later) can

  pub kept_orders : (count : ℕ) → CanPerform (state_from first es (orders_before es + later)) count → IsKept opening es before (later + count) copies
  kept_orders count can = record {
    begins = kept.begins;
    at_once = kept.at_once;
    first = copied_orders first es later count opening kept.first;
    possible = possible_orders first es later count kept.possible (can_here count can);
    counted = kept.counted;
    copied = all_so (IsCopied first es later) (IsCopied first es (later + count)) copies opening (copied_orders first es later count) kept.copied;
  }

  pub kept_step : (step : Step) → CanStep step (state_from first es (orders_before es + later))
      → IsKept opening (es ++ event later step ∷ []) (before + later) 0 copies
  kept_step step can = record {
    begins = kept.begins;
    at_once = kept.at_once;
    first = copied_step first es later step opening kept.first;
    possible = possible_step first es later step kept.possible (subst (λ s. CanStep step s) (leads_on first es later) can);
    counted = ap (λ n. n + later) kept.counted ∙ sym (orders_before-more es (event later step));
    copied = all_so (IsCopied first es later) (IsCopied first (es ++ event later step ∷ []) 0) copies opening (copied_step first es later step) kept.copied;
  }

  abbrev copy_here : Configuration → Copied
  copy_here now = record { place = length es; within = later; orders = before + later; machine = now }

  pub kept_copy : (now : Configuration) → now ≡ at_boundary (state_from first es (orders_before es + later))
      → IsKept opening es before later (copies ++ copy_here now ∷ [])
  kept_copy now is =
      let here = copied_here first es later now is in
      let it : IsCopied first es later (copy_here now) = record { there = here.there; few = here.few; counted = ap (λ n. n + later) kept.counted ∙ here.counted; same = here.same } in
      record {
        begins = kept.begins;
        at_once = kept.at_once;
        first = kept.first;
        possible = kept.possible;
        counted = kept.counted;
        copied = All-push (IsCopied first es later) copies (copy_here now) kept.copied it;
      }

-- ---- the way from a copy

orders_before-mono : (es : List Event) (i j : ℕ) → i ≤ j → orders_before (take i es) ≤ orders_before (take j es)
unfolding orders_before
orders_before-mono es zero j less = omega arith
orders_before-mono [] (suc i) j less = omega arith
orders_before-mono (e ∷ es) (suc i) zero less = absurd (omega arith)
orders_before-mono (e ∷ es) (suc i) (suc j) less = let rest = orders_before-mono es i j (omega arith) in omega (arith, rest)

-- the machine before an event, a given number of whose orders are done
pub record IsAmid (start : State) (es : List Event) (later goal index done : ℕ) (now : Configuration) : Type 0 where
  pub there : now ≡ at_boundary (after (after_events start (take index es)) done)
  pub few : done ≤ orders_at es later index
  pub counted : orders_before (take index es) + done ≤ goal

module _ (start : State) (es : List Event) (later goal index done : ℕ) (now : Configuration) (e : Event) (amid : IsAmid start es later goal index done now)
    (possible : ArePossible start es later) (is : slice_get es index ≡ Some e) where
  abbrev here : State
  here = after_events start (take index es)

  state_is : now.state ≡ after here done
  state_is = ap (λ (m : Configuration). m.state) amid.there

  pub amid_few : done ≤ e.orders
  amid_few = subst (λ n. done ≤ n) (orders_at-event es later index e is) amid.few

  pub amid_can : CanPerform now.state (e.orders - done)
  amid_can = subst (λ s. CanPerform s (e.orders - done)) (sym state_is) (can_rest here done e.orders amid_few (possible_event start es later index e possible is).0)

  all_done : after now.state (e.orders - done) ≡ after here e.orders
  all_done =
      let whole : done + (e.orders - done) ≡ e.orders = let few = amid_few in omega (arith, few) in
      ap (λ s. after s (e.orders - done)) state_is ∙ sym (after_sum here done (e.orders - done)) ∙ ap (after here) whole

  pub amid_can_step : CanStep e.step (after now.state (e.orders - done))
  amid_can_step = subst (λ s. CanStep e.step s) (sym all_done) (possible_event start es later index e possible is).1

  pub amid_next : (place left : ℕ) (new : Configuration) → goal ≡ orders_before (take place es) + left → index < place → new ≡ at_boundary (stepped e.step (after now.state (e.orders - done)))
      → IsAmid start es later goal (index + 1) 0 new
  amid_next place left new goal_is before moved =
      let mono = orders_before-mono es (index + 1) place (omega arith) in
      record {
        there = moved ∙ ap (λ s. at_boundary (stepped e.step s)) all_done ∙ ap at_boundary (sym (after_events-next start es index e is))
            ∙ ap at_boundary (sym (after_none (after_events start (take (index + 1) es))));
        few = omega arith;
        counted = omega (arith, mono, goal_is);
      }

-- what can be performed after the events before a place
possible_place : (s : State) (es : List Event) (later place : ℕ) → ArePossible s es later → place ≤ length es
    → CanPerform (after_events s (take place es)) (orders_at es later place)
unfolding ArePossible after_events orders_at
possible_place s [] later zero can within = can
possible_place s [] later (suc place) can within = absurd (omega arith)
possible_place s (e ∷ es) later zero can within = can.0
possible_place s (e ∷ es) later (suc place) can within = possible_place (after_event s e) es later place can.2 (omega arith)

module _ (start : State) (es : List Event) (later index done place left : ℕ) (now : Configuration)
    (amid : IsAmid start es later (orders_before (take place es) + left) index done now) (end : index ≡ place) where
  abbrev there : State
  there = after_events start (take place es)

  last_few : done ≤ left
  last_few =
      let counted = amid.counted in
      let same = ap (λ n. orders_before (take n es)) end in
      omega (arith, counted, same)

  last_state : now.state ≡ after there done
  last_state = ap (λ (m : Configuration). m.state) amid.there ∙ ap (λ n. after (after_events start (take n es)) done) end

  pub last_can : ArePossible start es later → place ≤ length es → left ≤ orders_at es later place → CanPerform now.state (left - done)
  last_can possible within few =
      let all = can_fewer there left (orders_at es later place) few (possible_place start es later place possible within) in
      subst (λ s. CanPerform s (left - done)) (sym last_state) (can_rest there done left last_few all)

  pub last_performed : (new : Configuration) → new ≡ at_boundary (after now.state (left - done)) → new ≡ at_boundary (after there left)
  last_performed new moved =
      let few = last_few in
      let whole : done + (left - done) ≡ left = omega (arith, few) in
      moved ∙ ap (λ s. at_boundary (after s (left - done))) last_state ∙ ap at_boundary (sym (after_sum there done (left - done))) ∙ ap (λ n. at_boundary (after there n)) whole

-- ---- what is kept of a past up to an order

pub before_first : (es : List Event) → orders_before (take 0 es) ≡ 0
unfolding orders_before
before_first es = refl

pub no_order : orders_before [] ≡ 0
unfolding orders_before
no_order = refl

-- the first copy is before each order
pub kept_first : (opening : Copied) (es : List Event) (before later : ℕ) (copies : List Copied) → IsKept opening es before later copies → opening.orders ≡ 0
kept_first opening es before later copies kept =
    let counted = kept.first.counted in
    let begins = ap (λ n. orders_before (take n es)) kept.begins ∙ before_first es in
    omega (arith, counted, begins, kept.at_once)

possible_until : (s : State) (es : List Event) (later place left : ℕ) → ArePossible s es later → place ≤ length es → left ≤ orders_at es later place → ArePossible s (take place es) left
unfolding ArePossible orders_at
possible_until s [] later zero left can within few = can_fewer s left later few can
possible_until s [] later (suc place) left can within few = absurd (omega arith)
possible_until s (e ∷ es) later zero left can within few = can_fewer s left e.orders few can.0
possible_until s (e ∷ es) later (suc place) left can within few = (can.0, can.1, possible_until (after_event s e) es later place left can.2 (omega arith) few)

orders_at-before : (es : List Event) (later left place copied : ℕ) → copied < place → place ≤ length es → orders_at (take place es) left copied ≡ orders_at es later copied
unfolding orders_at
orders_at-before es later left zero copied before within = absurd (omega arith)
orders_at-before [] later left (suc place) copied before within = absurd (omega arith)
orders_at-before (e ∷ es) later left (suc place) zero before within = refl
orders_at-before (e ∷ es) later left (suc place) (suc copied) before within = orders_at-before es later left place copied (omega arith) (omega arith)

orders_at-last : (es : List Event) (left place : ℕ) → place ≤ length es → orders_at (take place es) left place ≡ left
unfolding orders_at
orders_at-last es left zero within = refl
orders_at-last [] left (suc place) within = absurd (omega arith)
orders_at-last (e ∷ es) left (suc place) within = orders_at-last es left place (omega arith)

orders_before-step : (es : List Event) (later place : ℕ) → place < length es → orders_before (take (place + 1) es) ≡ orders_before (take place es) + orders_at es later place
orders_before-step es later place before =
    let e = get_or es place (event 0 Perform) in
    let at : slice_get es place ≡ Some e = slice_get-get_or es place (event 0 Perform) before in
    orders_before-next es place e at ∙ ap (λ n. orders_before (take place es) + n) (sym (orders_at-event es later place e at))

take_earlier : (i j : ℕ) (es : List Event) → i ≤ j → take i (take j es) ≡ take i es
take_earlier zero j es less = refl
take_earlier (suc i) zero es less = absurd (omega arith)
take_earlier (suc i) (suc j) [] less = refl
take_earlier (suc i) (suc j) (e ∷ es) less = ap (λ (ys : List Event). e ∷ ys) (take_earlier i j es (omega arith))

module _ (es : List Event) (later place left : ℕ) (within : place ≤ length es) (next : place < length es → left < orders_at es later place) where
  -- a copy no later than an order is no later than the place where it begins
  copied_place : (start : State) (copy : Copied) → IsCopied start es later copy → copy.orders ≤ orders_before (take place es) + left → copy.place ≤ place
  copied_place start copy is few =
      ⊎_elim
      (λ later_copy.
      let before : place < length es = let there = is.there in omega (arith, later_copy, there) in
      let step = orders_before-step es later place before in
      let mono = orders_before-mono es (place + 1) copy.place (omega (arith, later_copy)) in
      let strict = next before in
      let counted = is.counted in
      absurd (omega (arith, step, mono, strict, counted, few)))
      (λ no_later. no_later)
      (cases_lt place copy.place)

  copied_until : (start : State) (copy : Copied) → IsCopied start es later copy → copy.orders ≤ orders_before (take place es) + left → IsCopied start (take place es) left copy
  copied_until start copy is few =
      let no_later = copied_place start copy is few in
      let same : take copy.place (take place es) ≡ take copy.place es = take_earlier copy.place place es no_later in
      record {
        there = omega (arith, no_later, length-take-le place es within);
        few =
            ⊎_elim
            (λ before. subst (λ n. copy.within ≤ n) (sym (orders_at-before es later left place copy.place before within)) is.few)
            (λ last.
            let end : copy.place ≡ place = omega (arith, last, no_later) in
            let all = ap (λ n. orders_at (take place es) left n) end ∙ orders_at-last es left place within in
            let counted = is.counted in
            let sum = ap (λ n. orders_before (take n es)) end in
            omega (arith, all, counted, sum, few))
            (cases_lt copy.place place);
        counted = is.counted ∙ ap (λ ys. orders_before ys + copy.within) (sym same);
        same = is.same ∙ ap (λ ys. at_boundary (after (after_events start ys) copy.within)) (sym same);
      }

  pub kept_until : (opening : Copied) (before order : ℕ) (copies kept_copies : List Copied) (count : ℕ) → IsKept opening es before later copies → left ≤ orders_at es later place → orders_before (take place es) + left ≡ order
      → kept_copies ≡ take count copies → All (λ copy. copy.orders ≤ order) kept_copies → IsKept opening (take place es) (order - left) left kept_copies
  kept_until opening before order copies kept_copies count kept few is first_ones no_later =
      let zero_first = kept_first opening es before later copies kept in
      let were : All (IsCopied opening.machine.state es later) kept_copies =
      All-same (IsCopied opening.machine.state es later) kept_copies (take count copies) first_ones (All-take (IsCopied opening.machine.state es later) count copies kept.copied) in
      record {
        begins = kept.begins;
        at_once = kept.at_once;
        first = copied_until opening.machine.state opening kept.first (omega (arith, zero_first));
        possible = possible_until opening.machine.state es later place left kept.possible within few;
        counted = omega (arith, is);
        copied = All-from_get_or (IsCopied opening.machine.state (take place es) left) kept_copies opening
            (λ i here.
            let was = All-get_or (IsCopied opening.machine.state es later) kept_copies i opening here were in
            let early = All-get_or (λ copy. copy.orders ≤ order) kept_copies i opening here no_later in
            copied_until opening.machine.state (get_or kept_copies i opening) was (omega (arith, early, is)));
      }

abbrev pub past_with : Story → Bool → Past
past_with story room = record { story = story; has_room = room }

abbrev pub past_of : State → List Event → ℕ → Bool → Past
past_of start events orders room = past_with (record { first = start; events = events; orders = orders }) room

-- a past up to an order, as it is kept
pub told_until : (story : Story) (order place left : ℕ) (start : State) (items : List Event) (room : Bool) → start ≡ story.first → items ≡ take place story.events
    → events_until story.events order ≡ take place story.events → orders_before (take place story.events) + left ≡ order
    → past_of start items left room ≡ past_with (story_until story order) room
told_until story order place left start items room first_is items_is until sum =
    let events_is : items ≡ events_until story.events order = items_is ∙ sym until in
    let counted = ap orders_before until in
    let orders_is : left ≡ order - orders_before (events_until story.events order) = omega (arith, counted, sum) in
    ap (λ (s : State). past_of s items left room) first_is ∙ ap (λ (es : List Event). past_of story.first es left room) events_is
    ∙ ap (λ n. past_of story.first (events_until story.events order) n room) orders_is

-- ---- the present state

pub present_first : (s : State) → s ≡ present (record { first = s; events = []; orders = 0 })
present_first s = sym (leads_on s [] 0 ∙ ap (λ t. after t 0) (after_events-nil s) ∙ after_none s)

pub present_event : (story : Story) (step : Step) → stepped step (present story) ≡ present (with_event story step)
present_event story step =
    let e = event story.orders step in
    let es = story.events in
    let there = leads_on story.first (es ++ e ∷ []) 0 ∙ after_none (after_events story.first (es ++ e ∷ [])) ∙ after_events-more story.first es e in
    ap (stepped step) (leads_on story.first es story.orders) ∙ sym there

pub present_orders : (story : Story) (count : ℕ) → after (present story) count ≡ present (with_orders story count)
present_orders story count =
    ap (λ s. after s count) (leads_on story.first story.events story.orders)
    ∙ sym (after_sum (after_events story.first story.events) story.orders count)
    ∙ sym (leads_on story.first story.events (story.orders + count))

until_few : (es : List Event) (order : ℕ) → orders_before (events_until es order) ≤ order
unfolding events_until orders_before
until_few [] order = omega arith
until_few (e ∷ es) order =
    elim (nat_lt order e.orders) as (λ b. nat_lt order e.orders ≡ b → orders_before (cond b [] (e ∷ events_until es (order - e.orders))) ≤ order) [
      | true ↦ λ is. omega arith
      | false ↦ λ is. let rest = until_few es (order - e.orders) in let less = ltb-false order e.orders is in omega (arith, rest, less)
    ] refl

same_state : (s : State) (es : List Event) (order : ℕ) → state_from s (events_until es order) order ≡ state_from s es order
unfolding events_until state_from
same_state s [] order = refl
same_state s (e ∷ es) order =
    elim (nat_lt order e.orders) as (λ b. nat_lt order e.orders ≡ b → state_from s (cond b [] (e ∷ events_until es (order - e.orders))) order ≡ cond b (after s order) (state_from (after_event s e) es (order - e.orders)))
    [ true ↦ λ is. refl | false ↦ λ is. rw is (same_state (after_event s e) es (order - e.orders)) ] refl

pub present_until : (story : Story) (order : ℕ) → state_at story order ≡ present (story_until story order)
present_until story order =
    let few = until_few story.events order in
    let whole : orders_before (events_until story.events order) + (order - orders_before (events_until story.events order)) ≡ order = omega (arith, few) in
    sym (ap (λ n. state_from story.first (events_until story.events order) n) whole ∙ same_state story.first story.events order)

-- a step was done, and noted
pub noted_event : (old new : State) (story : Story) (step : Step) (noted : Past) → old ≡ present story → new ≡ stepped step old → noted.story ≡ with_event story step → new ≡ present noted.story
noted_event old new story step noted here moved is = moved ∙ ap (stepped step) here ∙ present_event story step ∙ ap present (sym is)

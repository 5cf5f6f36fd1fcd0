-- The kept steps that records stand for.
use Rattle.std.proofs.Common.{◌≡◌, ◌≢◌, ℕ, ◌+◌, ◌-◌, ◌<◌, ◌≤◌, ◌&&◌, ◌==◌, Bool, true, false, not, cond, List, [], ◌∷◌, ◌++◌, length, take, drop, get_or, set, Option, Some, None, zero, suc, refl, sym, ◌∙◌, ap, subst, arith, position, slice_get, eq-eqb, eqb-true, true≢false, get_or-set_other, get_or-set_same, ltb-true, option_map, take-append-drop, drop_of_length-le}
use Rattle.std.proofs.lemmas.Bool.Decides.{nat_tests}
use Rattle.circular_buffer.specs.Buffer.{keep_last}
use Rattle.lgp_table.specs.State.{State}
use Rattle.lgp_table.specs.Activity.{next}
use Rattle.lgp_table.proofs.Costs.{cost_more}
use Rattle.lgp_machine.specs.Marks.{state_at_mark, words_with}
use Rattle.lgp_history.specs.Steps.{AreStepsTo, Leads, is_order, orders_in, state_back, stepped, steps_back, with_step}
use Rattle.lgp_history.specs.Hits.{first_hit, is_hit, last_hit}
use Rattle.lgp_history.specs.RecordedInside.{Recorded, belongs, can_restore, is_recorded_hit, loses_at, orders_recorded, read, recorded, undone, with_tape}
use Rattle.lgp_history.specs.declared.rule.Rule.{Rule}
use Rattle.lgp_history.specs.declared.rule.Rule.TheVariants.{At, Changed}
use Rattle.lgp_history.specs.Step.{KeptStep, Step, Perform, Press, Idle, Mount, Put, step_from}
use Rattle.lgp_history.proofs.KeptSteps.{first_state-more, order_count, state_back-more, steps_back-more}
use Rattle.lgp_history.proofs.Undoing.{undone-recorded}

pub and_right : (x y : Bool) → (x && y) ≡ true → y ≡ true
and_right true y e = e
and_right false y e = absurd (true≢false (sym e))

pub and_left : (x y : Bool) → (x && y) ≡ true → x ≡ true
and_left true y e = refl
and_left false y e = absurd (true≢false (sym e))

pub with_tape-words : (tape : Option (List ℕ)) (passed : ℕ) (s : State) → (with_tape tape passed s).core.words ≡ s.core.words
with_tape-words None passed s = refl
with_tape-words (Some codes) passed s = refl

pub same_not_different : (x : ℕ) → not (x == x) ≡ false
same_not_different x = rw (eq-eqb x x refl)

pub differs_too : (x y : ℕ) → not (x == y) ≡ true → not (y == x) ≡ true
differs_too x y e = grind (arith, nat_tests)

-- the word that is put back is the only one that differs
put_differs : (words : List ℕ) (b w a : ℕ) → b < length words → not (get_or words b 0 == w) ≡ true → not (get_or (set words b w) a 0 == get_or words a 0) ≡ (b == a)
put_differs words b w a within other =
    elim (b == a) as (λ t. (b == a) ≡ t → not (get_or (set words b w) a 0 == get_or words a 0) ≡ t) [
      | true ↦ λ e. subst (λ (n : ℕ). not (get_or (set words b w) n 0 == get_or words n 0) ≡ true) (eqb-true b a e) (rw (get_or-set_same words b w 0 within) (differs_too _ _ other))
      | false ↦ λ e. let apart : a ≢ b = grind (arith, nat_tests) in rw (get_or-set_other words b a w 0 apart) (same_not_different (get_or words a 0))
    ] refl

lost_differs : (words : List ℕ) (lost : Option (ℕ × ℕ)) (a : ℕ) → can_restore lost words ≡ true → not (get_or (words_with words lost) a 0 == get_or words a 0) ≡ loses_at lost a
lost_differs words None a ok = same_not_different _
lost_differs words (Some (b, w)) a ok = put_differs _ b w a (ltb-true b (length words) (and_left _ _ ok)) (and_right _ _ ok)

-- an order with a given number of orders after it, and the number of a rule
abbrev pub found_at : ℕ → ℕ → ℕ × ℕ
found_at later number = (later + 1, number)

pub read-more : (rs : List Recorded) (r : Recorded) (now : State) → read (rs ++ r ∷ []) now ≡ read rs (undone r now) ++ step_from (undone r now) r.step ∷ []
read-more [] r now = refl
read-more (x ∷ xs) r now =
    grind (arith, first_state-more, read-more xs r now)

pub length-read : (rs : List Recorded) (now : State) → length (read rs now) ≡ length rs
length-read [] now = refl
length-read (r ∷ rs) now = ap suc (length-read rs _)

pub read-drop : (n : ℕ) (rs : List Recorded) (now : State) → read (drop n rs) now ≡ drop n (read rs now)
read-drop zero rs now = refl
read-drop (suc n) [] now = refl
read-drop (suc n) (r ∷ rs) now = read-drop n rs _

pub orders_in-read : (rs : List Recorded) (now : State) → orders_in (read rs now) ≡ orders_recorded rs
orders_in-read [] now = refl
orders_in-read (r ∷ rs) now = ap (λ n. cond (is_order r.step) 1 0 + n) (orders_in-read rs _)

-- one more record stands for one more step
pub read-noted : (capacity : ℕ) (rs : List Recorded) (before : State) (step : Step) → read (keep_last capacity (rs ++ recorded step before ∷ [])) (stepped step before) ≡ with_step capacity (read rs before) before step
read-noted capacity rs before step =
    grind (arith, length-read, read-drop, read-more, undone-recorded)

-- reading the last record
pub orders_recorded-more : (rs : List Recorded) (r : Recorded) → orders_recorded (rs ++ r ∷ []) ≡ orders_recorded rs + cond (is_order r.step) 1 0
orders_recorded-more [] r = omega arith
orders_recorded-more (x ∷ xs) r = omega (arith, orders_recorded-more xs r)

-- the record at an index, and those after it
pub drop-next : (rs : List Recorded) (i : ℕ) (r : Recorded) → slice_get rs i ≡ Some r → drop i rs ≡ r ∷ drop (i + 1) rs
drop-next [] i r is = cc
drop-next (x ∷ xs) zero r is = cc
drop-next (x ∷ xs) (suc i) r is = let e : suc i + 1 ≡ suc (i + 1) = omega arith in rw e (drop-next xs i r is)

pub order_is : (step : Step) → is_order step ≡ true → step ≡ Perform
order_is Perform e = refl
order_is (Press action) e = absurd (true≢false (sym e))
order_is (Idle times) e = absurd (true≢false (sym e))
order_is (Mount codes) e = absurd (true≢false (sym e))
order_is (Put address word) e = absurd (true≢false (sym e))

-- the state at the mark
abbrev pub before_mark : Recorded → State → State
before_mark r after = state_at_mark (with_tape r.tape r.mark.passed after) r.mark r.lost

-- no step takes the clock back
pub not_back : (step : Step) (s : State) → s.clock ≤ (stepped step s).clock
not_back Perform s = omega (arith, cost_more s)
not_back (Press action) s = omega arith
not_back (Idle times) s = omega arith
not_back (Mount codes) s = omega arith
not_back (Put address word) s = omega arith

-- a record from whose state its step leads to another belongs to that one
pub belonging : (r : Recorded) (after : State) → stepped r.step (undone r after) ≡ after → belongs r after ≡ true
belonging r after leads =
    grind (arith, not_back)

pub undone-belonging : (r : Recorded) (after : State) → belongs r after ≡ true → undone r after ≡ before_mark r after
undone-belonging r after ok = ap (λ b. cond b (before_mark r after) (record after { clock = after.clock + 1 })) ok

hit_at_mark : (r : Recorded) (after : State) (rule : Rule) → can_restore r.lost after.core.words ≡ true → next (before_mark r after) ≡ after → is_hit (before_mark r after) rule ≡ is_recorded_hit r rule
hit_at_mark r after (At address) ok leads = refl
hit_at_mark r after (Changed address) ok leads =
    grind (arith, with_tape-words, lost_differs)

-- a rule's hit is read off the record of an order
hit_as_recorded : (r : Recorded) (after : State) (rule : Rule) → is_order r.step ≡ true → stepped r.step (undone r after) ≡ after → is_hit (undone r after) rule ≡ is_recorded_hit r rule
hit_as_recorded r after rule order leads =
    grind (arith, belonging, undone-belonging, order_is, hit_at_mark, and_right)

pub first_hit_as_recorded : (r : Recorded) (after : State) (rules : List Rule) → is_order r.step ≡ true → stepped r.step (undone r after) ≡ after → first_hit rules (undone r after) ≡ position (is_recorded_hit r) rules
first_hit_as_recorded r after rules order leads = grind (arith, hit_as_recorded)

-- the last hit, one record further from the end
pub last_hit-next : (rules : List Rule) (r : Recorded) (later : List Recorded) (now : State) → Leads (read (r ∷ later) now) now → last_hit rules (read later now) ≡ None
    → last_hit rules (read (r ∷ later) now) ≡ cond (is_order r.step) (option_map (found_at (orders_recorded later)) (position (is_recorded_hit r) rules)) None
last_hit-next rules r later now leads none =
    grind (arith, found_at, orders_in-read, first_hit_as_recorded)

leads-drop : (n : ℕ) (kept : List KeptStep) (now : State) → AreStepsTo now kept → AreStepsTo now (drop n kept)
leads-drop zero kept now led = led
leads-drop (suc n) [] now led = led
leads-drop (suc n) (k ∷ ks) now led = leads-drop n ks _ led.2

pub leads-read : (n : ℕ) (rs : List Recorded) (now : State) → Leads (read rs now) now → Leads (read (drop n rs) now) now
leads-read n rs now led = grind (arith, read-drop, leads-drop)

-- the records from the one before an index on
pub drop-before : (rs : List Recorded) (i : ℕ) (r : Recorded) → 0 < i → slice_get rs (i - 1) ≡ Some r → drop (i - 1) rs ≡ r ∷ drop i rs
drop-before rs i r h is = grind (arith, drop-next)

pub orders_recorded-before : (rs : List Recorded) (i : ℕ) (r : Recorded) → 0 < i → slice_get rs (i - 1) ≡ Some r → orders_recorded (drop (i - 1) rs) ≡ cond (is_order r.step) 1 0 + orders_recorded (drop i rs)
orders_recorded-before rs i r h is = ap (λ (xs : List Recorded). orders_recorded xs) (drop-before rs i r h is)

pub last_hit-before : (rules : List Rule) (rs : List Recorded) (now : State) (i : ℕ) (r : Recorded) → Leads (read rs now) now → 0 < i → slice_get rs (i - 1) ≡ Some r → last_hit rules (read (drop i rs) now) ≡ None
    → last_hit rules (read (drop (i - 1) rs) now) ≡ cond (is_order r.step) (option_map (found_at (orders_recorded (drop i rs))) (position (is_recorded_hit r) rules)) None
last_hit-before rules rs now i r led h is none =
    grind (arith, drop-before, last_hit-next, leads-read)

last_hit-drop : (rules : List Rule) (n : ℕ) (kept : List KeptStep) (hit : ℕ × ℕ) → last_hit rules (drop n kept) ≡ Some hit → last_hit rules kept ≡ Some hit
last_hit-drop rules zero kept hit e = e
last_hit-drop rules (suc n) [] hit e = e
last_hit-drop rules (suc n) (k ∷ ks) hit e = rw (last_hit-drop _ n ks _ e) refl

-- a last hit among the later steps is the last hit of all
pub last_hit-found : (rules : List Rule) (rs : List Recorded) (now : State) (n : ℕ) (hit : ℕ × ℕ) → last_hit rules (read (drop n rs) now) ≡ Some hit → last_hit rules (read rs now) ≡ Some hit
last_hit-found rules rs now n hit e = grind (arith, last_hit-drop, read-drop)

-- what the search finds at a record: nothing where it is no order or no rule hits it, and else the last hit
pub last_hit-passed : (rules : List Rule) (rs : List Recorded) (now : State) (i : ℕ) (r : Recorded) → Leads (read rs now) now → 0 < i → slice_get rs (i - 1) ≡ Some r → last_hit rules (read (drop i rs) now) ≡ None
    → is_order r.step ≡ false → last_hit rules (read (drop (i - 1) rs) now) ≡ None
last_hit-passed rules rs now i r led h is none order =
    last_hit-before _ rs _ i r led h is none ∙ rw order refl

pub last_hit-missed : (rules : List Rule) (rs : List Recorded) (now : State) (i : ℕ) (r : Recorded) → Leads (read rs now) now → 0 < i → slice_get rs (i - 1) ≡ Some r → last_hit rules (read (drop i rs) now) ≡ None
    → is_order r.step ≡ true → position (is_recorded_hit r) rules ≡ None → last_hit rules (read (drop (i - 1) rs) now) ≡ None
last_hit-missed rules rs now i r led h is none order missed =
    last_hit-before _ rs _ i r led h is none ∙ rw order (ap (λ (hit : Option ℕ). option_map (found_at (orders_recorded (drop i rs))) hit) missed)

pub last_hit-hit : (rules : List Rule) (rs : List Recorded) (now : State) (i : ℕ) (r : Recorded) → Leads (read rs now) now → 0 < i → slice_get rs (i - 1) ≡ Some r → last_hit rules (read (drop i rs) now) ≡ None
    → is_order r.step ≡ true → (number : ℕ) → position (is_recorded_hit r) rules ≡ Some number → last_hit rules (read rs now) ≡ Some (orders_recorded (drop i rs) + 1, number)
last_hit-hit rules rs now i r led h is none order number hit =
    last_hit-found _ rs _ _ _
    (last_hit-before _ rs _ i r led h is none ∙ rw order (ap (λ (hit : Option ℕ). option_map (found_at (orders_recorded (drop i rs))) hit) hit))

-- the last record and those before it
pub front-last : (rs : List Recorded) (r : Recorded) → slice_get rs (length rs - 1) ≡ Some r → rs ≡ take (length rs - 1) rs ++ r ∷ []
front-last rs r is =
    let past : length rs ≤ length rs - 1 + 1 = omega arith in
    sym (take-append-drop (length rs - 1) rs) ∙ ap (λ (xs : List Recorded). take (length rs - 1) rs ++ xs) (drop-next rs _ r is ∙ ap (λ (xs : List Recorded). r ∷ xs) (drop_of_length-le rs past))

-- the steps before the last one, which leads on
pub before_last : (ks : List KeptStep) (k : KeptStep) (now : State) → AreStepsTo now (ks ++ k ∷ []) → AreStepsTo k.before ks × (stepped k.step k.before ≡ now)
before_last [] k now led = (tt, led.1)
before_last (x ∷ xs) k now led =
    grind (arith, first_state-more, before_last xs k _ led.2)

-- undoing the last record
module _ (rs : List Recorded) (r : Recorded) (s : State) (m : ℕ) (is : slice_get rs (length rs - 1) ≡ Some r) (some : 1 ≤ m + order_count r.step) (within : m + order_count r.step ≤ orders_recorded rs) where
  orders-left : m ≤ orders_recorded (take (length rs - 1) rs)
  orders-left = let e = ap (λ (xs : List Recorded). orders_recorded xs) (front-last rs r is) in omega (arith, e, orders_recorded-more (take (length rs - 1) rs) r)

  read-last : read rs s ≡ read (take (length rs - 1) rs) (undone r s) ++ step_from (undone r s) r.step ∷ []
  read-last = ap (λ (xs : List Recorded). read xs s) (front-last rs r is) ∙ read-more _ r s

  orders-read : m ≤ orders_in (read (take (length rs - 1) rs) (undone r s))
  orders-read = rw (orders_in-read _ _) orders-left

  state-undone : state_back (m + order_count r.step) (read rs s) s ≡ state_back m (read (take (length rs - 1) rs) (undone r s)) (undone r s)
  state-undone =
      ap (λ (ks : List KeptStep). state_back (m + order_count r.step) ks s) read-last
      ∙ state_back-more _ _ s m some orders-read

  steps-undone : steps_back (m + order_count r.step) (read rs s) ≡ steps_back m (read (take (length rs - 1) rs) (undone r s))
  steps-undone =
      ap (λ (ks : List KeptStep). steps_back (m + order_count r.step) ks) read-last
      ∙ steps_back-more _ _ m some orders-read

  led-last : Leads (read rs s) s → AreStepsTo (undone r s) (read (take (length rs - 1) rs) (undone r s)) × (stepped r.step (undone r s) ≡ s)
  led-last led = before_last _ _ s (subst (λ (ks : List KeptStep). AreStepsTo s ks) read-last led.steps)

pub record IsUndone (rs : List Recorded) (r : Recorded) (s : State) (m : ℕ) : Type 0 where
  pub belongs_there : belongs r s ≡ true
  pub leads : Leads (read (take (length rs - 1) rs) (undone r s)) (undone r s)
  pub recorded : m ≤ orders_recorded (take (length rs - 1) rs)
  pub state : state_back (m + order_count r.step) (read rs s) s ≡ state_back m (read (take (length rs - 1) rs) (undone r s)) (undone r s)
  pub steps : steps_back (m + order_count r.step) (read rs s) ≡ steps_back m (read (take (length rs - 1) rs) (undone r s))

pub undone-last : (rs : List Recorded) (r : Recorded) (s : State) (m : ℕ) → slice_get rs (length rs - 1) ≡ Some r → 1 ≤ m + order_count r.step → m + order_count r.step ≤ orders_recorded rs → Leads (read rs s) s → IsUndone rs r s m
undone-last rs r s m is some within led = record {
  belongs_there = belonging r s (led-last rs r s m is some within led).1;
  leads = record { steps = (led-last rs r s m is some within led).0 };
  recorded = orders-left rs r s m is some within;
  state = state-undone rs r s m is some within;
  steps = steps-undone rs r s m is some within;
}

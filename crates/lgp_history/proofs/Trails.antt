-- What trails play.
use Rattle.std.proofs.Common.{◌≡◌, ℕ, ◌+◌, ◌-◌, ◌<◌, ◌≤◌, ◌%◌, ◌==◌, Bool, true, false, cond, List, [], ◌∷◌, ◌++◌, length, take, drop, Option, Some, None, zero, suc, refl, sym, ◌∙◌, ap, subst, arith, length-append, slice_get, length-take, length-drop, option_map, position, drop_of_length-le}
use Rattle.std.proofs.lemmas.List.{drop-append-le, drop-drop, take_all}
use Rattle.std.proofs.lemmas.Bool.Decides.{nat_tests}
use Rattle.std.proofs.Common.{eqb-true}
use Rattle.std.specs.Option.{option_or}
use Rattle.std.proofs.lemmas.Option.{slice_get_within}
use Rattle.circular_buffer.specs.Buffer.{keep_last}
use Rattle.lgp_table.specs.State.{State}
use Rattle.lgp_table.specs.Interleaving.{Configuration, at_boundary}
use Rattle.lgp_history.specs.Steps.{AreStepsTo, CanStep, Leads, is_order, orders_in, state_back, stepped, steps_back, with_step}
use Rattle.lgp_history.specs.CheckpointsInside.{hit_more, AreNotedFrom, IsNoted, IsTrail, Noted, Trail, copy_at, noted_after, played, played_to, start_of}
use Rattle.lgp_history.specs.Step.{KeptStep, Step, Perform, step_from}
use Rattle.lgp_history.specs.declared.rule.Rule.{Rule}
use Rattle.lgp_history.specs.Hits.{first_hit, last_hit}
use Rattle.lgp_history.specs.RecordedInside.{Recorded, is_recorded_hit, recorded}
use Rattle.lgp_history.proofs.RecordedSteps.{first_hit_as_recorded}
use Rattle.lgp_history.proofs.Undoing.{undone-recorded}
use Rattle.lgp_history.proofs.KeptSteps.{leads-back, order_count, orders_in-more, orders_in-within, state_back-more, steps_back-more}

same_copy : (n m : ℕ) (s : State) → n ≡ m → copy_at n s ≡ copy_at m s
same_copy n m s e = ap (λ k. copy_at k s) e

abbrev pair : ℕ → ℕ → ℕ × ℕ
pair orders number = (orders, number)

copy_after_block : (n : ℕ) (s : State) → copy_at (n + 64) s ≡ copy_at n s
copy_after_block n s = grind arith

copy_due : (place : ℕ) (s : State) → place % 64 ≡ 0 → copy_at place s ≡ Some (at_boundary s)
copy_due place s due = rw due refl

-- a machine at a boundary, by its state
pub at_its_boundary : (now : Configuration) (s : State) → now ≡ at_boundary s → now ≡ at_boundary now.state
at_its_boundary now s e = e ∙ ap at_boundary (sym (ap (λ (m : Configuration). m.state) e))

count_cases : (passed after capacity long : ℕ) → passed < 64 → passed ≤ long - 1 → long ≤ passed + capacity → 1 ≤ capacity → after ≡ cond (long == passed + capacity) (passed + 1) passed
    → (after ≤ 64) × (after < long + 1) × (long + 1 ≤ after + capacity)
count_cases passed after capacity long few some within room is = (grind (arith, nat_tests), grind (arith, nat_tests), grind (arith, nat_tests))

-- there is something at every place of a list
pub nothing_within : {Y : Type 0} (ys : List Y) (k : ℕ) → k < length ys → None ≡ slice_get ys k → ⊥
nothing_within [] k h e = absurd (omega arith)
nothing_within (y ∷ ys) zero h e = cc
nothing_within (y ∷ ys) (suc k) h e = nothing_within ys k (omega arith) e

one_hit : (b : Bool) (hit : Option ℕ) → option_or None (cond b (option_map (λ number. pair 1 number) hit) None) ≡ cond b (hit_more None hit) None
one_hit true None = refl
one_hit true (Some number) = refl
one_hit false hit = refl

hit_shift : (b c : Bool) (orders : ℕ) (later : Option (ℕ × ℕ)) (here : Option ℕ) (first : Option ℕ)
    → option_or (cond b (hit_more later here) later) (cond c (option_map (λ number. pair (orders + cond b 1 0 + 1) number) first) None)
    ≡ cond b (hit_more (option_or later (cond c (option_map (λ number. pair (orders + 1) number) first) None)) here) (option_or later (cond c (option_map (λ number. pair (orders + 1) number) first) None))
hit_shift false c orders later here first =
    grind arith
hit_shift true c orders (Some hit) (Some rule) first = refl
hit_shift true c orders (Some hit) None first = refl
hit_shift true true orders None (Some rule) (Some number) = refl
hit_shift true true orders None (Some rule) None = refl
hit_shift true false orders None (Some rule) first = refl
hit_shift true true orders None None (Some number) = refl
hit_shift true true orders None None None = refl
hit_shift true false orders None None first = refl

played-more : (s : State) (es : List Noted) (e : Noted) → played s (es ++ e ∷ []) ≡ played s es ++ step_from (played_to s es) e.step ∷ []
played-more s [] e = refl
played-more s (x ∷ xs) e = grind (arith, played-more (stepped x.step s) xs e)

played_to-more : (s : State) (es : List Noted) (e : Noted) → played_to s (es ++ e ∷ []) ≡ stepped e.step (played_to s es)
played_to-more s [] e = refl
played_to-more s (x ∷ xs) e = played_to-more (stepped x.step s) xs e

pub length-played : (s : State) (es : List Noted) → length (played s es) ≡ length es
length-played s [] = refl
length-played s (x ∷ xs) = ap suc (length-played (stepped x.step s) xs)

played-drop : (k : ℕ) (s : State) (es : List Noted) → drop k (played s es) ≡ played (played_to s (take k es)) (drop k es)
played-drop zero s es = refl
played-drop (suc k) s [] = refl
played-drop (suc k) s (x ∷ xs) = played-drop k _ xs

played_to-split : (k : ℕ) (s : State) (es : List Noted) → played_to (played_to s (take k es)) (drop k es) ≡ played_to s es
played_to-split zero s es = refl
played_to-split (suc k) s [] = refl
played_to-split (suc k) s (x ∷ xs) = played_to-split k _ xs

noted-more : (n : ℕ) (s : State) (es : List Noted) (e : Noted) → AreNotedFrom n s es → e.copy ≡ copy_at (n + length es) (played_to s es) → CanStep e.step (played_to s es) → AreNotedFrom n s (es ++ e ∷ [])
noted-more n s [] e noted copy can = (copy ∙ same_copy _ n s (omega arith), can, tt)
noted-more n s (x ∷ xs) e noted copy can =
    let t = stepped x.step s in
    let same : n + suc (length xs) ≡ n + 1 + length xs = omega arith in
    (noted.0, noted.1, noted-more (n + 1) t xs e noted.2 (copy ∙ same_copy _ _ _ same) can)

noted-take : (k n : ℕ) (s : State) (es : List Noted) → AreNotedFrom n s es → AreNotedFrom n s (take k es)
noted-take zero n s es noted = tt
noted-take (suc k) n s [] noted = tt
noted-take (suc k) n s (x ∷ xs) noted = (noted.0, noted.1, noted-take k _ _ xs noted.2)

noted-drop : (k n : ℕ) (s : State) (es : List Noted) → AreNotedFrom n s es → AreNotedFrom (n + k) (played_to s (take k es)) (drop k es)
noted-drop zero n s es noted = let e : n ≡ n + 0 = omega arith in subst (λ m. AreNotedFrom m s es) e noted
noted-drop (suc k) n s [] noted = tt
noted-drop (suc k) n s (x ∷ xs) noted =
    let e : n + 1 + k ≡ n + suc k = omega arith in
    let t = stepped x.step s in
    subst (λ m. AreNotedFrom m (played_to t (take k xs)) (drop k xs)) e (noted-drop k _ t xs noted.2)

noted-block : (n : ℕ) (s : State) (es : List Noted) → AreNotedFrom (n + 64) s es → AreNotedFrom n s es
noted-block n s [] noted = tt
noted-block n s (x ∷ xs) noted =
    let e : n + 64 + 1 ≡ n + 1 + 64 = omega arith in
    let t = stepped x.step s in
    (noted.0 ∙ copy_after_block n s, noted.1, noted-block (n + 1) t xs (subst (λ m. AreNotedFrom m t xs) e noted.2))

-- what is noted at a place
pub record IsNotedAt (n : ℕ) (s : State) (e : Noted) : Type 0 where
  pub copy : e.copy ≡ copy_at n s
  pub can : CanStep e.step s

noted-from : (k n : ℕ) (s : State) (es : List Noted) (e : Noted) → AreNotedFrom n s es → slice_get es k ≡ Some e → IsNotedAt (n + k) (played_to s (take k es)) e
noted-from k n s [] e noted is = cc
noted-from zero n s (x ∷ xs) e noted is =
    grind arith
noted-from (suc k) n s (x ∷ xs) e noted is =
    let same : n + 1 + k ≡ n + suc k = omega arith in
    let t = stepped x.step s in
    subst (λ m. IsNotedAt m (played_to t (take k xs)) e) same (noted-from k _ t xs e noted.2 is)

pub noted_at : (k : ℕ) (es : List Noted) (e : Noted) → IsNoted es → slice_get es k ≡ Some e → IsNotedAt k (played_to (start_of es) (take k es)) e
noted_at k es e noted is = let same : 0 + k ≡ k = omega arith in subst (λ m. IsNotedAt m (played_to (start_of es) (take k es)) e) same (noted-from k 0 _ es e noted.noted is)

-- one place further
take-next : (es : List Noted) (k : ℕ) (e : Noted) → slice_get es k ≡ Some e → take (k + 1) es ≡ take k es ++ e ∷ []
take-next [] k e is = cc
take-next (x ∷ xs) zero e is = cc
take-next (x ∷ xs) (suc k) e is = grind (arith, take-next xs k e is)

pub played_to-next : (s : State) (es : List Noted) (k : ℕ) (e : Noted) → slice_get es k ≡ Some e → played_to s (take (k + 1) es) ≡ stepped e.step (played_to s (take k es))
played_to-next s es k e is = ap (λ (ys : List Noted). played_to s ys) (take-next es k e is) ∙ played_to-more s (take k es) e

-- the kept steps up to a place
abbrev pub kept_to : State → List Noted → ℕ → ℕ → List KeptStep
kept_to s es passed k = drop passed (played s (take k es))

pub kept_to-next : (s : State) (es : List Noted) (passed k : ℕ) (e : Noted) → passed ≤ k → slice_get es k ≡ Some e → kept_to s es passed (k + 1) ≡ kept_to s es passed k ++ step_from (played_to s (take k es)) e.step ∷ []
kept_to-next s es passed k e h is =
    let within = slice_get_within es k e is in
    let long : passed ≤ length (played s (take k es)) = omega (arith, length-played s (take k es), length-take k es) in
    ap (λ (ys : List Noted). drop passed (played s ys)) (take-next es k e is)
    ∙ ap (λ (ks : List KeptStep). drop passed ks) (played-more s _ e)
    ∙ drop-append-le passed (played s (take k es)) (step_from (played_to s (take k es)) e.step ∷ []) long

-- the trail leads where its kept steps lead
leads-played : (now s : State) (e : Noted) (later : List Noted) → AreStepsTo now (played s (e ∷ later)) → played_to s (e ∷ later) ≡ now
leads-played now s e [] led = led.1
leads-played now s e (f ∷ later) led = leads-played now (stepped e.step s) f later led.2

leads_some : (now s : State) (es : List Noted) → 0 < length es → AreStepsTo now (played s es) → played_to s es ≡ now
leads_some now s [] h led = absurd (omega arith)
leads_some now s (e ∷ later) h led = leads-played _ s e _ led

pub leads_to : (now s : State) (es : List Noted) (passed : ℕ) → passed < length es → Leads (drop passed (played s es)) now → played_to s es ≡ now
leads_to now s es passed h led =
    let t = played_to s (take passed es) in
    let some : 0 < length (drop passed es) = omega (arith, length-drop passed es) in
    sym (played_to-split _ s es) ∙ leads_some _ t _ some (subst (λ (ks : List KeptStep). AreStepsTo now ks) (played-drop _ s es) led.steps)

-- the copy at a place where one is due
pub copied_at : (k : ℕ) (es : List Noted) (e : Noted) → IsNoted es → slice_get es k ≡ Some e → k % 64 ≡ 0 → e.copy ≡ Some (at_boundary (played_to (start_of es) (take k es)))
copied_at k es e noted is due = (noted_at k es e noted is).copy ∙ copy_due k _ due

-- a step that is done again from where the trail leads
pub can_at : (now : Configuration) (k : ℕ) (es : List Noted) (e : Noted) → IsNoted es → slice_get es k ≡ Some e → now ≡ at_boundary (played_to (start_of es) (take k es)) → CanStep e.step now.state
can_at now k es e noted is here = grind (arith, noted_at)

pub done_at : (now after : Configuration) (k : ℕ) (es : List Noted) (e : Noted) → slice_get es k ≡ Some e → now ≡ at_boundary (played_to (start_of es) (take k es)) → after ≡ at_boundary (stepped e.step now.state)
    → after ≡ at_boundary (played_to (start_of es) (take (k + 1) es))
done_at now after k es e is here done =
    grind (arith, played_to-next)

-- no step is kept up to the first place that counts
pub kept_to-none : (s : State) (es : List Noted) (passed : ℕ) → kept_to s es passed passed ≡ []
kept_to-none s es passed =
    drop_of_length-le (played s (take passed es)) (omega (arith, length-played s (take passed es), length-take passed es))

pub kept_to-all : (s : State) (es : List Noted) (passed k : ℕ) → length es ≤ k → kept_to s es passed k ≡ drop passed (played s es)
kept_to-all s es passed k h = ap (λ (ys : List Noted). drop passed (played s ys)) (take_all k es h)

pub orders_to-next : (s : State) (es : List Noted) (passed k : ℕ) (e : Noted) → passed ≤ k → slice_get es k ≡ Some e → orders_in (kept_to s es passed (k + 1)) ≡ orders_in (kept_to s es passed k) + order_count e.step
orders_to-next s es passed k e h is =
    ap (λ (ks : List KeptStep). orders_in ks) (kept_to-next s es _ k e h is) ∙ orders_in-more _ _

-- where an order is kept, the place is after those that do not count
pub some_kept : (s : State) (es : List Noted) (passed k : ℕ) → 1 ≤ orders_in (kept_to s es passed k) → passed < k
some_kept s es passed k h =
    let few = orders_in-within (kept_to s es passed k) in
    omega (arith, few, length-drop passed (played s (take k es)), length-played s (take k es), length-take k es)

-- one place back over the last kept step
pub record IsPlaceBack (s : State) (es : List Noted) (passed k next : ℕ) (e : Noted) (m : ℕ) : Type 0 where
  pub kept : m ≤ orders_in (kept_to s es passed k)
  pub state : state_back (m + order_count e.step) (kept_to s es passed next) (played_to s (take next es)) ≡ state_back m (kept_to s es passed k) (played_to s (take k es))
  pub steps : steps_back (m + order_count e.step) (kept_to s es passed next) ≡ steps_back m (kept_to s es passed k)

one_back : (s : State) (es : List Noted) (passed k : ℕ) (e : Noted) (m : ℕ) → passed ≤ k → slice_get es k ≡ Some e → 1 ≤ m + order_count e.step → m + order_count e.step ≤ orders_in (kept_to s es passed (k + 1))
    → IsPlaceBack s es passed k (k + 1) e m
one_back s es passed k e m h is some within =
    let left : m ≤ orders_in (kept_to s es passed k) = omega (arith, orders_to-next s es _ k e h is) in
    let next = kept_to-next s es _ k e h is in
    let at : KeptStep = (step_from (played_to s (take k es)) e.step) in
    record {
      kept = left;
      state = ap (λ (ks : List KeptStep). state_back (m + order_count e.step) ks (played_to s (take (k + 1) es))) next ∙ state_back-more _ at (played_to s (take (k + 1) es)) m some left;
      steps = ap (λ (ks : List KeptStep). steps_back (m + order_count e.step) ks) next ∙ steps_back-more _ at m some left;
    }

pub place_back : (s : State) (es : List Noted) (passed k next : ℕ) (e : Noted) (m : ℕ) → next ≡ k + 1 → passed ≤ k → slice_get es k ≡ Some e → 1 ≤ m + order_count e.step → m + order_count e.step ≤ orders_in (kept_to s es passed next)
    → IsPlaceBack s es passed k next e m
place_back s es passed k next e m same h is some within =
    subst (λ n. IsPlaceBack s es passed k n e m) (sym same)
    (one_back s es _ k e m h is some (subst (λ n. m + order_count e.step ≤ orders_in (kept_to s es passed n)) same within))

-- a trail begins with its first copy
start-noted : (s : State) (es : List Noted) → 0 < length es → AreNotedFrom 0 s es → start_of es ≡ s
start-noted s [] h noted = absurd (omega arith)
start-noted s (x ∷ xs) h noted = rw noted.0 refl

noted_by : (s : State) (es : List Noted) → 0 < length es → AreNotedFrom 0 s es → IsNoted es
noted_by s es h noted = grind (arith, start-noted)

start-take : (k : ℕ) (es : List Noted) → 0 < k → start_of (take k es) ≡ start_of es
start-take zero es h = absurd (omega arith)
start-take (suc k) [] h = refl
start-take (suc k) (x ∷ xs) h = refl

-- a trail without any step
pub empty_trail : (capacity : ℕ) → IsTrail [] 0 capacity
empty_trail capacity = grind arith

-- a trail cut after one of its kept steps
pub trail-take : (es : List Noted) (passed capacity place : ℕ) → IsTrail es passed capacity → passed < place → place < length es → IsTrail (take place es) passed capacity
trail-take es passed capacity place trail some within =
    let cut : length (take place es) ≡ place = omega (arith, length-take place es) in
    let start = start-take _ es (omega arith) in
    record {
      noted = record { noted = subst (λ (t : State). AreNotedFrom 0 t (take place es)) (sym start) (noted-take _ 0 _ es trail.noted.noted) };
      few = trail.few;
      some = omega (arith, cut);
      within = omega (arith, cut, trail.within);
    }

pub kept-take : (es : List Noted) (passed place : ℕ) → passed < place → drop passed (played (start_of (take place es)) (take place es)) ≡ drop passed (played (start_of es) (take place es))
kept-take es passed place some = grind (arith, start-take)

-- one step more on a trail
pub record IsMore (es after : List Noted) (before : State) (step : Step) : Type 0 where
  pub noted : IsNoted after
  pub played_more : played (start_of after) after ≡ played (start_of es) es ++ step_from before step ∷ []

first_more : (before : State) (step : Step) → CanStep step before → (e : Noted) → e ≡ record { step = step; copy = copy_at 0 before } → IsMore [] (e ∷ []) before step
first_more before step can e is = rw is (record { noted = record { noted = (refl, can, tt) }; played_more = refl })

next_more : (es : List Noted) (before : State) (step : Step) → 0 < length es → IsNoted es → played_to (start_of es) es ≡ before → CanStep step before → IsMore es (es ++ record { step = step; copy = copy_at (length es) before } ∷ []) before step
next_more [] before step h noted here can = absurd (omega arith)
next_more (x ∷ xs) before step h noted here can =
    grind (arith, same_copy, noted-more, played-more)

more : (es : List Noted) (passed capacity : ℕ) (before : State) (step : Step) → IsTrail es passed capacity → Leads (drop passed (played (start_of es) es)) before → CanStep step before
    → IsMore es (es ++ record { step = step; copy = copy_at (passed + length (drop passed (played (start_of es) es))) before } ∷ []) before step
more [] passed capacity before step trail led can =
    grind (arith, first_more)
more (x ∷ xs) passed capacity before step trail led can =
    let es = x ∷ xs in
    let some : passed < length es = omega (arith, trail.some) in
    let all : passed + length (drop passed (played (start_of es) es)) ≡ length es = omega (arith, length-drop passed (played (start_of es) es), length-played (start_of es) es) in
    let here = leads_to _ _ es _ some led in
    subst (λ n. IsMore es (es ++ record { step = step; copy = copy_at n before } ∷ []) before step) (sym all) (next_more es _ _ (omega arith) trail.noted here can)

-- the kept steps, one more
kept_more : (played_before : List KeptStep) (passed after capacity : ℕ) (k : KeptStep) → passed ≤ length played_before → length played_before ≤ passed + capacity
    → after ≡ cond (length played_before == passed + capacity) (passed + 1) passed → drop after (played_before ++ k ∷ []) ≡ keep_last capacity (drop passed played_before ++ k ∷ [])
kept_more ks passed after capacity k h within is =
    let m = length (drop passed ks ++ k ∷ []) - capacity in
    let long : length (drop passed ks ++ k ∷ []) ≡ length ks - passed + 1 = omega (arith, length-append (drop passed ks) (k ∷ []), length-drop passed ks) in
    let place : after ≡ passed + m = grind (arith, nat_tests) in
    ap (λ n. drop n (ks ++ k ∷ [])) place
    ∙ sym (drop-drop m passed (ks ++ k ∷ []))
    ∙ ap (λ (xs : List KeptStep). drop m xs) (drop-append-le passed ks (k ∷ []) h)

-- a trail after a step, before whole blocks are cut from its front
pub record IsPushed (es after : List Noted) (passed passed_after capacity : ℕ) (before : State) (step : Step) : Type 0 where
  pub noted : IsNoted after
  pub few : passed_after ≤ 64
  pub some : passed_after < length after
  pub within : length after ≤ passed_after + capacity
  pub kept : drop passed_after (played (start_of after) after) ≡ with_step capacity (drop passed (played (start_of es) es)) before step

pub pushed : (es : List Noted) (passed passed_after capacity : ℕ) (before : State) (step : Step) → 1 ≤ capacity → IsTrail es passed capacity → Leads (drop passed (played (start_of es) es)) before → CanStep step before
    → passed_after ≡ cond (length es == passed + capacity) (passed + 1) passed
    → IsPushed es (es ++ record { step = step; copy = copy_at (passed + length (drop passed (played (start_of es) es))) before } ∷ []) passed passed_after capacity before step
pushed es passed passed_after capacity before step room trail led can is =
    let e : Noted = record { step = step; copy = copy_at (passed + length (drop passed (played (start_of es) es))) before } in
    let m = more es passed capacity before step trail led can in
    let long : length (es ++ e ∷ []) ≡ length es + 1 = omega (arith, length-append es (e ∷ [])) in
    let ks = played (start_of es) es in
    let same = length-played (start_of es) es in
    let is_here : passed_after ≡ cond (length ks == passed + capacity) (passed + 1) passed = rw same is in
    let c = count_cases passed passed_after capacity (length es) trail.few trail.some trail.within room is in
    record {
      noted = m.noted;
      few = c.0;
      some = rw long c.1;
      within = rw long c.2;
      kept = ap (λ (xs : List KeptStep). drop passed_after xs) m.played_more ∙ kept_more ks passed passed_after capacity (step_from before step) (rw same (omega (arith, trail.some))) (rw same trail.within) is_here;
    }

-- whole blocks cut from the front
pub record IsAfterNote (es after : List Noted) (passed passed_after capacity : ℕ) (before : State) (step : Step) : Type 0 where
  pub trail : IsTrail after passed_after capacity
  pub kept : drop passed_after (played (start_of after) after) ≡ with_step capacity (drop passed (played (start_of es) es)) before step

uncut : (es after : List Noted) (passed passed_after capacity : ℕ) (before : State) (step : Step) → IsPushed es after passed passed_after capacity before step → (passed_after == 64) ≡ false → IsAfterNote es after passed passed_after capacity before step
uncut es after passed passed_after capacity before step p other =
    grind arith

cut : (es after : List Noted) (passed passed_after capacity : ℕ) (before : State) (step : Step) → IsPushed es after passed passed_after capacity before step → passed_after ≡ 64 → IsAfterNote es (drop 64 after) passed 0 capacity before step
cut es after passed passed_after capacity before step p is =
    let s = start_of after in
    let t = played_to s (take 64 after) in
    let some : 0 < length (drop 64 after) = omega (arith, p.some, length-drop 64 after) in
    let noted : AreNotedFrom 0 t (drop 64 after) = noted-block 0 t _ (noted-drop 64 0 s _ p.noted.noted) in
    record {
      trail = record { noted = noted_by t _ some noted; few = omega arith; some = omega (arith, some); within = omega (arith, p.within, length-drop 64 after) };
      kept = ap (λ (u : State). played u (drop 64 after)) (start-noted t _ some noted) ∙ sym (played-drop 64 s after) ∙ ap (λ n. drop n (played s after)) (sym is) ∙ p.kept;
    }

pub after_note : (es after pushed_es : List Noted) (passed passed_pushed passed_after capacity : ℕ) (before : State) (step : Step) → IsPushed es pushed_es passed passed_pushed capacity before step
    → after ≡ cond (passed_pushed == 64) (drop 64 pushed_es) pushed_es → passed_after ≡ cond (passed_pushed == 64) 0 passed_pushed → IsAfterNote es after passed passed_after capacity before step
after_note es after pushed_es passed passed_pushed passed_after capacity before step p after_is passed_is =
    rw (after_is, passed_is)
    (elim (passed_pushed == 64) as (λ b. (passed_pushed == 64) ≡ b → IsAfterNote es (cond b (drop 64 pushed_es) pushed_es) passed (cond b 0 passed_pushed) capacity before step)
    [ true ↦ λ e. cut es pushed_es passed passed_pushed capacity before step p (eqb-true _ _ e) | false ↦ λ e. uncut es _ _ _ _ _ _ p e ] refl)

-- what a trail shows
abbrev pub shown_trail : List Noted → ℕ → ℕ → Trail
shown_trail es passed capacity = record { steps = drop passed (played (start_of es) es); passed = passed; capacity = capacity }

-- a step noted on a trail that shows as v
pub noted_trail : (es pushed_es after : List Noted) (passed passed_pushed passed_after capacity : ℕ) (v : Trail) (note : Noted) (before : State) (step : Step)
    → shown_trail es passed capacity ≡ v → IsTrail es passed capacity → 1 ≤ capacity → CanStep step before → note ≡ noted_after v before step → Leads v.steps before
    → pushed_es ≡ es ++ note ∷ [] → passed_pushed ≡ cond (length es == passed + capacity) (passed + 1) passed
    → after ≡ cond (passed_pushed == 64) (drop 64 pushed_es) pushed_es → passed_after ≡ cond (passed_pushed == 64) 0 passed_pushed
    → IsAfterNote es after passed passed_after capacity before step
noted_trail es pushed_es after passed passed_pushed passed_after capacity v note before step shows trail room can fits led pushed_is count_is after_is passed_is =
    let fits_here : note ≡ noted_after (shown_trail es passed capacity) before step = subst (λ (t : Trail). note ≡ noted_after t before step) (sym shows) fits in
    let led_here : Leads (drop passed (played (start_of es) es)) before = subst (λ (t : Trail). Leads t.steps before) (sym shows) led in
    let p = pushed es passed passed_pushed capacity before step room trail led_here can count_is in
    let same = pushed_is ∙ ap (λ (n : Noted). es ++ n ∷ []) fits_here in
    after_note es _ _ _ _ _ _ _ _ (subst (λ (xs : List Noted). IsPushed es xs passed passed_pushed capacity before step) (sym same) p) after_is passed_is

pub room_left : (es pushed_es : List Noted) (passed passed_pushed capacity : ℕ) (note : Noted) → IsTrail es passed capacity → 1 ≤ capacity → pushed_es ≡ es ++ note ∷ [] → passed_pushed ≡ cond (length es == passed + capacity) (passed + 1) passed
    → passed_pushed ≡ 64 → 64 ≤ length pushed_es
room_left es pushed_es passed passed_pushed capacity note trail room pushed_is count_is all =
    let long : length pushed_es ≡ length es + 1 = ap (λ (xs : List Noted). length xs) pushed_is ∙ omega (arith, length-append es (note ∷ [])) in
    let c = count_cases _ _ _ _ trail.few trail.some trail.within room count_is in
    omega (arith, c.1, long)

-- the latest hit, one step more
pub last_hit-more : (rules : List Rule) (kept : List KeptStep) (k : KeptStep) → last_hit rules (kept ++ k ∷ []) ≡ cond (is_order k.step) (hit_more (last_hit rules kept) (first_hit rules k.before)) (last_hit rules kept)
last_hit-more rules [] k = one_hit _ _
last_hit-more rules (x ∷ xs) k =
    grind (arith, orders_in-more, hit_shift, last_hit-more rules xs k)

-- the rule of an order is read off its record
pub first_hit-recorded : (r : Recorded) (rules : List Rule) (s : State) → r ≡ recorded Perform s → position (is_recorded_hit r) rules ≡ first_hit rules s
first_hit-recorded r rules s is =
    let p : Recorded = recorded Perform s in
    let back = undone-recorded Perform s in
    ap (λ (q : Recorded). position (is_recorded_hit q) rules) is
    ∙ sym (first_hit_as_recorded p _ _ refl (ap (λ (t : State). stepped Perform t) back))
    ∙ ap (λ (t : State). first_hit rules t) back

-- a trail of which the steps before a place are kept
pub record IsShortened (es after : List Noted) (passed passed_after capacity place : ℕ) : Type 0 where
  pub trail : IsTrail after passed_after capacity
  pub kept : drop passed_after (played (start_of after) after) ≡ drop passed (played (start_of es) (take place es))

emptied : (es : List Noted) (passed capacity place : ℕ) → place ≡ passed → IsShortened es [] passed 0 capacity place
emptied es passed capacity place is = record {
  trail = empty_trail _;
  kept = sym (ap (λ n. drop passed (played (start_of es) (take n es))) is ∙ kept_to-none _ es _);
}

pub shortened : (es after : List Noted) (passed passed_after capacity place : ℕ) → IsTrail es passed capacity → passed ≤ place → place < length es
    → after ≡ cond (place == passed) [] (take place es) → passed_after ≡ cond (place == passed) 0 passed → IsShortened es after passed passed_after capacity place
shortened es after passed passed_after capacity place trail from within after_is passed_is =
    rw (after_is, passed_is)
    (elim (place == passed) as (λ b. (place == passed) ≡ b → IsShortened es (cond b [] (take place es)) passed (cond b 0 passed) capacity place) [
      | true ↦ λ e. emptied es passed capacity place (eqb-true _ _ e)
      | false ↦ λ e. let some : passed < place = grind (arith, nat_tests) in record { trail = trail-take es passed capacity place trail some within; kept = kept-take es passed place some }
    ] refl)

-- where a history goes back to a place
pub record IsGoneBack (v : Trail) (shows : Trail) (now : State) (earlier : State) (orders : ℕ) : Type 0 where
  pub state : earlier ≡ state_back orders v.steps now
  pub steps : shows.steps ≡ steps_back orders v.steps
  pub leads : Leads shows.steps earlier
  pub capacity : shows.capacity ≡ v.capacity

pub gone_back : (es after : List Noted) (passed passed_after capacity place orders : ℕ) (v : Trail) (now earlier : State)
    → shown_trail es passed capacity ≡ v → Leads v.steps now → passed < length es → IsShortened es after passed passed_after capacity place
    → state_back orders (drop passed (played (start_of es) es)) (played_to (start_of es) es) ≡ played_to (start_of es) (take place es)
    → steps_back orders (drop passed (played (start_of es) es)) ≡ drop passed (played (start_of es) (take place es))
    → earlier ≡ played_to (start_of es) (take place es)
    → IsGoneBack v (shown_trail after passed_after capacity) now earlier orders
gone_back es after passed passed_after capacity place orders v now earlier shows led some short state steps earlier_is =
    let led_here : Leads (drop passed (played (start_of es) es)) now = subst (λ (t : Trail). Leads t.steps now) (sym shows) led in
    let here = leads_to _ _ es _ some led_here in
    let same = ap (λ (t : Trail). t.steps) shows in
    let state_is : earlier ≡ state_back orders v.steps now =
    earlier_is ∙ sym state ∙ ap (λ (s : State). state_back orders (drop passed (played (start_of es) es)) s) here ∙ ap (λ (ks : List KeptStep). state_back orders ks now) same in
    let steps_is : (shown_trail after passed_after capacity).steps ≡ steps_back orders v.steps = short.kept ∙ sym steps ∙ ap (λ (ks : List KeptStep). steps_back orders ks) same in
    record {
      state = state_is;
      steps = steps_is;
      leads = rw (steps_is, state_is) (leads-back _ _ _ led);
      capacity = ap (λ (t : Trail). t.capacity) shows;
    }

-- how long a trail is, by what it shows
pub shown_length : (es : List Noted) (passed capacity : ℕ) (v : Trail) → shown_trail es passed capacity ≡ v → passed ≤ length es → v.passed + length v.steps ≡ length es
shown_length es passed capacity v shows h =
    ap (λ (t : Trail). t.passed + length t.steps) (sym shows) ∙ omega (arith, length-drop passed (played (start_of es) es), length-played (start_of es) es)

-- what is noted after a trail
pub noted_here : (es : List Noted) (passed capacity long : ℕ) (v : Trail) (note : Noted) (before : State) (step : Step) → shown_trail es passed capacity ≡ v → IsTrail es passed capacity → long ≡ length es
    → note ≡ record { step = step; copy = copy_at long before } → note ≡ noted_after v before step
noted_here es passed capacity long v note before step shows trail long_is note_is =
    note_is ∙ ap (λ n. record { step = step; copy = copy_at n before }) (long_is ∙ sym (shown_length es _ _ v shows (omega (arith, trail.some))))

-- the latest hit, one place further
pub latest_next : (rules : List Rule) (s : State) (es : List Noted) (passed k : ℕ) (e : Noted) → passed ≤ k → slice_get es k ≡ Some e
    → last_hit rules (kept_to s es passed (k + 1)) ≡ cond (is_order e.step) (hit_more (last_hit rules (kept_to s es passed k)) (first_hit rules (played_to s (take k es)))) (last_hit rules (kept_to s es passed k))
latest_next rules s es passed k e h is =
    ap (λ (ks : List KeptStep). last_hit rules ks) (kept_to-next s es _ k e h is) ∙ last_hit-more rules (kept_to s es passed k) (step_from (played_to s (take k es)) e.step)

pub latest_passed : (rules : List Rule) (es : List Noted) (passed k : ℕ) (e : Noted) (now : Configuration) (before after : Option (ℕ × ℕ)) (hit : Option ℕ) → passed ≤ k → slice_get es k ≡ Some e → is_order e.step ≡ true
    → now ≡ at_boundary (played_to (start_of es) (take k es)) → before ≡ last_hit rules (kept_to (start_of es) es passed k) → hit ≡ first_hit rules now.state → after ≡ hit_more before hit
    → after ≡ last_hit rules (kept_to (start_of es) es passed (k + 1))
latest_passed rules es passed k e now before after hit h is order here before_is hit_is after_is =
    let s = start_of es in
    let hit_here : hit ≡ first_hit rules (played_to s (take k es)) = hit_is ∙ ap (λ (m : Configuration). first_hit rules m.state) here in
    after_is ∙ ap (λ (latest : Option (ℕ × ℕ)). hit_more latest hit) before_is ∙ ap (λ (o : Option ℕ). hit_more (last_hit rules (kept_to s es passed k)) o) hit_here
    ∙ sym (latest_next _ s es _ k e h is ∙ rw order refl)

pub latest_skipped : (rules : List Rule) (es : List Noted) (passed k : ℕ) (e : Noted) (before : Option (ℕ × ℕ)) → passed ≤ k → slice_get es k ≡ Some e → is_order e.step ≡ false
    → before ≡ last_hit rules (kept_to (start_of es) es passed k) → before ≡ last_hit rules (kept_to (start_of es) es passed (k + 1))
latest_skipped rules es passed k e before h is order before_is =
    before_is ∙ sym (latest_next _ _ es _ k e h is ∙ rw order refl)

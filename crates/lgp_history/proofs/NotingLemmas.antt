-- What is noted of the words that the recorded steps changed.
use Rattle.std.proofs.Common.{◌≡◌, ◌⊎◌, ⊎_elim, inl, inr, ℕ, ◌+◌, ◌-◌, ◌<◌, ◌≤◌, ◌==◌, true, false, List, [], ◌∷◌, ◌++◌, length, nat_le, replicate, take, drop, Some, None, zero, suc, refl, sym, ◌∙◌, ap, subst, arith, slice_get, slice_index, eqb-true}
use Rattle.std.proofs.lemmas.Bool.Decides.{nat_tests}
use Rattle.std.proofs.lemmas.List.{length-append, length-drop, length-replicate}
use Rattle.std.proofs.lemmas.Option.{none-some, same_Some, slice_get-get_or, slice_get_cases, slice_get_within}
use Rattle.circular_buffer.specs.Buffer.{Buffer, buffer, keep_last}
use Rattle.lgp_table.specs.State.{State}
use Rattle.lgp_history.specs.NotingInside.{AreInOrder, AreNoted, IsNoted, clock_or_none, last_clock}
use Rattle.lgp_history.specs.Origins.{latest_change}
use Rattle.lgp_history.specs.Steps.{AreStepsTo, Leads, stepped}
use Rattle.lgp_history.specs.RecordedInside.{Recorded, lost_at, read, recorded, undone}
use Rattle.lgp_history.specs.Step.{KeptStep, Step}
use Rattle.lgp_history.proofs.OriginLemmas.{change-passed}
use Rattle.lgp_history.proofs.RecordedSteps.{before_last, belonging, front-last, not_back, read-more, undone-belonging}

-- the records from the beginning
pub get-take : (n i : ℕ) (rs : List Recorded) (r : Recorded) → slice_get (take n rs) i ≡ Some r → slice_get rs i ≡ Some r
get-take zero i rs r e = absurd (none-some r e)
get-take (suc n) i [] r e = e
get-take (suc n) zero (x ∷ xs) r e = e
get-take (suc n) (suc i) (x ∷ xs) r e = get-take n i xs r e

get-drop : (n i : ℕ) (rs : List Recorded) → slice_get (drop n rs) i ≡ slice_get rs (n + i)
get-drop zero i rs = let e : 0 + i ≡ i = omega arith in rw e refl
get-drop (suc n) i [] = refl
get-drop (suc n) i (x ∷ xs) = let e : suc n + i ≡ suc (n + i) = omega arith in rw e (get-drop n i xs)

-- one record more
get-more : (rs : List Recorded) (x : Recorded) (i : ℕ) (r : Recorded) → slice_get (rs ++ x ∷ []) i ≡ Some r → (slice_get rs i ≡ Some r) ⊎ ((i ≡ length rs) × (r ≡ x))
get-more [] x zero r e = inr (refl, sym (same_Some x r e))
get-more [] x (suc i) r e = absurd (none-some r e)
get-more (y ∷ ys) x zero r e = inl e
get-more (y ∷ ys) x (suc i) r e = ⊎_elim (λ h. inl h) (λ h. inr (ap suc h.0, h.1)) (get-more ys x i r e)

get-last : (rs : List Recorded) (x : Recorded) → slice_get (rs ++ x ∷ []) (length rs) ≡ Some x
get-last [] x = refl
get-last (y ∷ ys) x = get-last ys x

-- no step began after the last one
clock-last : (rs : List Recorded) (i : ℕ) (r : Recorded) → AreInOrder rs → slice_get rs i ≡ Some r → r.mark.clock ≤ last_clock rs
clock-last rs i r in_order at =
    let within = slice_get_within rs i r at in
    let last = slice_get-get_or rs (length rs - 1) r (omega arith) in
    rw last (in_order i (length rs - 1) r _ (omega arith) at last)

-- the last step began no later than now
last-led : (rs : List Recorded) (s : State) → Leads (read rs s) s → last_clock rs ≤ s.clock
last-led rs s led =
    elim (slice_get rs (length rs - 1)) as (λ o. slice_get rs (length rs - 1) ≡ o → clock_or_none o ≤ s.clock) [
      | None ↦ λ e. omega arith
      | Some r ↦ λ e.
          let steps = before_last _ _ s (subst (λ (ks : List KeptStep). AreStepsTo s ks) (ap (λ (xs : List Recorded). read xs s) (front-last rs r e) ∙ read-more _ r s) led.steps) in
          let ok = belonging r s steps.1 in
          let clock : (undone r s).clock ≡ r.mark.clock = ap (λ (x : State). x.clock) (undone-belonging r s ok) in
          let after : (stepped r.step (undone r s)).clock ≡ s.clock = ap (λ (x : State). x.clock) steps.1 in
          omega (arith, clock, after, not_back r.step (undone r s))
    ] refl

in_order-more : (rs : List Recorded) (x : Recorded) → AreInOrder rs → last_clock rs ≤ x.mark.clock → AreInOrder (rs ++ x ∷ [])
in_order-more rs x in_order later i j r s le at_i at_j =
    ⊎_elim
    (λ h. ⊎_elim (λ k. in_order i j r s le k h) (λ k. let within = slice_get_within rs j s h in absurd (omega (arith, k.0))) (get-more rs x i r at_i))
    (λ h. ⊎_elim
    (λ k. let before = clock-last rs i r in_order k in let same = ap (λ (y : Recorded). y.mark.clock) h.1 in omega arith)
    (λ k. let same = ap (λ (y : Recorded). y.mark.clock) (k.1 ∙ sym h.1) in omega arith)
    (get-more rs x i r at_i))
    (get-more rs x j s at_j)

-- one step more
module _ (rs : List Recorded) (changes : List ℕ) (before : ℕ) (r : Recorded) (capacity : ℕ) (some : 1 ≤ capacity) (later : last_clock rs ≤ r.mark.clock) (noted : AreNoted rs changes before) where
  abbrev from : ℕ
  from = length (rs ++ r ∷ []) - capacity

  kept-at : (i : ℕ) (x : Recorded) → slice_get (keep_last capacity (rs ++ r ∷ [])) i ≡ Some x → slice_get (rs ++ r ∷ []) (from + i) ≡ Some x
  kept-at i x at = sym (get-drop from i (rs ++ r ∷ [])) ∙ at

  kept-last : slice_get (keep_last capacity (rs ++ r ∷ [])) (length (keep_last capacity (rs ++ r ∷ [])) - 1) ≡ Some r
  kept-last =
      let e : from + (length (keep_last capacity (rs ++ r ∷ [])) - 1) ≡ length rs = omega (arith, length-drop from (rs ++ r ∷ []), length-append rs (r ∷ [])) in
      get-drop from _ (rs ++ r ∷ []) ∙ rw e (get-last rs r)

  kept-noted : (i : ℕ) (x : Recorded) → slice_get (keep_last capacity (rs ++ r ∷ [])) i ≡ Some x → x.mark.clock < before → IsNoted changes x
  kept-noted i x at is_before =
      ⊎_elim
      (λ h. noted.noted (from + i) x h is_before)
      (λ h. let same = ap (λ (y : Recorded). y.mark.clock) h.1 in let last = noted.last in absurd (omega arith))
      (get-more rs r (from + i) x (kept-at i x at))

  noted-more : AreNoted (keep_last capacity (rs ++ r ∷ [])) changes before
  noted-more =
      let last = noted.last in
      record {
        places = noted.places;
        in_order = λ i j x y le at_i at_j. in_order-more rs r noted.in_order later (from + i) (from + j) x y (omega arith) (kept-at i x at_i) (kept-at j y at_j);
        noted = kept-noted;
        last = rw kept-last (omega arith);
      }

-- nothing is noted where nothing is recorded
none-noted : (changes : List ℕ) → length changes ≡ 4096 → AreNoted [] changes 0
none-noted changes places = record {
  places = places;
  in_order = λ i j r s le at_i at_j. absurd (none-some r at_i);
  noted = λ i r at is_before. absurd (none-some r at);
  last = omega arith;
}

-- where no earlier step changed the word either
none-earlier : (address : ℕ) (rs : List Recorded) (now : State) (n : ℕ) → Leads (read rs now) now → n ≤ length rs → latest_change address (read (drop n rs) now) ≡ None
    → ((i : ℕ) → (r : Recorded) → i < n → slice_get rs i ≡ Some r → lost_at r.lost address ≡ None) → latest_change address (read rs now) ≡ None
none-earlier address rs now zero led within none stays = none
none-earlier address rs now (suc n) led within none stays =
    let one : suc n - 1 ≡ n = omega arith in
    ⊎_elim
    (λ p.
    let passed = change-passed address rs now (suc n) p.0 _ led (omega arith) (ap (λ m. slice_get rs m) one ∙ p.2) none refl (stays n p.0 (omega arith) p.2) in
    none-earlier address rs now n led (omega arith) (subst (λ m. latest_change address (read (drop m rs) now) ≡ None) one passed) (λ i x l at. stays i x (omega arith) at))
    (λ p. absurd (omega (arith, p.0)))
    (slice_get_cases rs n).1

-- where a step began before a clock, and none that began so early changed the word
pub none-before : (address : ℕ) (rs : List Recorded) (now : State) (n before : ℕ) (r : Recorded) → Leads (read rs now) now → AreInOrder rs → 0 < n → n ≤ length rs → slice_get rs (n - 1) ≡ Some r → r.mark.clock < before
    → ((i : ℕ) → (s : Recorded) → slice_get rs i ≡ Some s → s.mark.clock < before → lost_at s.lost address ≡ None) → latest_change address (read (drop n rs) now) ≡ None → latest_change address (read rs now) ≡ None
none-before address rs now n before r led in_order some within at early stays none =
    none-earlier address rs now n led within none (λ i s l at_i. let clock = in_order i (n - 1) s r (omega arith) at_i at in stays i s at_i (omega arith))

-- the changes of the steps from an index on are noted, with those of the one before it
pub noted-next : (rs : List Recorded) (old new : List ℕ) (left : ℕ) (r : Recorded) → 0 < left → slice_get rs (left - 1) ≡ Some r → IsNoted new r → ((address : ℕ) → slice_index old address ≤ slice_index new address)
    → ((i : ℕ) → (s : Recorded) → left ≤ i → slice_get rs i ≡ Some s → IsNoted old s) → (i : ℕ) → (s : Recorded) → left - 1 ≤ i → slice_get rs i ≡ Some s → IsNoted new s
noted-next rs old new left r some is here grow later i s le at =
    elim (i == left - 1) as (λ t. (i == left - 1) ≡ t → IsNoted new s) [
      | true ↦ λ e. subst (λ (x : Recorded). IsNoted new x) (same_Some r s (sym is ∙ ap (λ n. slice_get rs n) (sym (eqb-true i (left - 1) e)) ∙ at)) here
      | false ↦ λ e. let past : left ≤ i = grind (arith, nat_tests) in λ address word lost. let known = later i s past at address word lost in let more = grow address in omega arith
    ] refl

-- and all are noted where those before it are
pub noted-all : (rs : List Recorded) (old new : List ℕ) (before left : ℕ) (r : Recorded) → AreNoted rs old before → 0 < left → slice_get rs (left - 1) ≡ Some r → r.mark.clock < before → ((address : ℕ) → slice_index old address ≤ slice_index new address)
    → ((i : ℕ) → (s : Recorded) → left ≤ i → slice_get rs i ≡ Some s → IsNoted new s) → (i : ℕ) → (s : Recorded) → slice_get rs i ≡ Some s → IsNoted new s
noted-all rs old new before left r noted some is early grow later i s at =
    elim (nat_le left i) as (λ t. nat_le left i ≡ t → IsNoted new s) [
      | true ↦ λ e. let past : left ≤ i = grind (arith, nat_tests) in later i s past at
      | false ↦ λ e.
          let earlier : i < left = grind (arith, nat_tests) in
          let clock = noted.in_order i (left - 1) s r (omega arith) at is in
          λ address word lost. let known = noted.noted i s at (omega arith) address word lost in let more = grow address in omega arith
    ] refl

-- nothing is recorded at first
pub nothing_noted : (records : Buffer Recorded) (capacity : ℕ) (changes : List ℕ) → 1 ≤ capacity → records ≡ buffer [] capacity → changes ≡ replicate 4096 0 → (1 ≤ records.capacity) × AreNoted records.items changes 0
nothing_noted records capacity changes some empty zeros =
    rw empty (some, none-noted changes (rw zeros (length-replicate {A = ℕ} 4096 0)))

-- after one step more
pub noted-after : (inside old new : Buffer Recorded) (changes : List ℕ) (noted_before : ℕ) (note : Recorded) (before : State) (step : Step) → inside ≡ old → note ≡ recorded step before → Leads (read old.items before) before
    → (1 ≤ inside.capacity) × AreNoted inside.items changes noted_before → new ≡ record { items = keep_last inside.capacity (inside.items ++ note ∷ []); capacity = inside.capacity } → (1 ≤ new.capacity) × AreNoted new.items changes noted_before
noted-after inside old new changes noted_before note before step view fits led noted pushed =
    let led_inside : Leads (read inside.items before) before = subst (λ (b : Buffer Recorded). Leads (read b.items before) before) (sym view) led in
    let last = last-led inside.items before led_inside in
    let clock : note.mark.clock ≡ before.clock = ap (λ (r : Recorded). r.mark.clock) fits in
    let later : last_clock inside.items ≤ note.mark.clock = omega arith in
    rw pushed (noted.0, noted-more inside.items changes noted_before note inside.capacity noted.0 later noted.1)

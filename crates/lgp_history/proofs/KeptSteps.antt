-- What is kept, one step more or some orders back.
use Rattle.std.proofs.Common.{◌≡◌, ℕ, ◌+◌, ◌≤◌, Bool, true, false, cond, List, [], ◌∷◌, ◌++◌, drop, refl, sym, ◌∙◌, ap, suc, zero, arith, length}
use Rattle.std.specs.Prelude.{◌==◌, ◌&&◌}
use Rattle.std.proofs.lemmas.Bool.Decides.{nat_tests}
use mir.Val.{bool_byte}
use Rattle.lgp_table.specs.State.{State}
use Rattle.lgp_history.specs.Steps.{AreStepsTo, CanStep, Leads, first_state, is_order, is_order_back, orders_in, state_back, stepped, steps_back, with_step}
use Rattle.lgp_history.specs.Step.{KeptStep, Step, step_from}

-- where orders are counted from the end, one step more shifts the count by itself
same_test : (later m more : ℕ) → (later + more + 1 == m + more) ≡ (later + 1 == m)
same_test later m more = grind (arith, nat_tests)

last_test : (b : Bool) (m : ℕ) → 1 ≤ m + cond b 1 0 → m ≤ 0 → (b && (0 + 1 == m + cond b 1 0)) ≡ true
last_test true m h within = grind (arith, nat_tests)
last_test false m h within = absurd (omega arith)

within_rest : (b : Bool) (later m : ℕ) → (b && (later + 1 == m)) ≡ false → m ≤ cond b 1 0 + later → m ≤ later
within_rest true later m other within = grind (arith, nat_tests)
within_rest false later m other within = omega arith

within_more : (b : Bool) (orders steps : ℕ) → orders ≤ steps → cond b 1 0 + orders ≤ suc steps
within_more true orders steps h = omega arith
within_more false orders steps h = omega arith

none_back : (b : Bool) (later : ℕ) → (b && (later + 1 == 0)) ≡ false
none_back true later = grind (arith, nat_tests)
none_back false later = refl

-- a truth value as a number
bool_byte-count : (b : Bool) → bool_byte b ≡ cond b 1 0
bool_byte-count true = refl
bool_byte-count false = refl

pub bool_byte-few : (b : Bool) → bool_byte b ≤ 1
bool_byte-few true = omega arith
bool_byte-few false = omega arith

pub first_state-more : (kept : List KeptStep) (k : KeptStep) (now : State) → first_state (kept ++ k ∷ []) now ≡ first_state kept k.before
first_state-more [] k now = refl
first_state-more (x ∷ xs) k now = refl

are_steps-more : (kept : List KeptStep) (before : State) (step : Step) → AreStepsTo before kept → CanStep step before → AreStepsTo (stepped step before) (kept ++ step_from before step ∷ [])
are_steps-more [] before step led can = (can, refl, tt)
are_steps-more (x ∷ xs) before step led can = grind (arith, first_state-more, are_steps-more xs _ _ led.2 can)

are_steps-drop : (n : ℕ) (kept : List KeptStep) (now : State) → AreStepsTo now kept → AreStepsTo now (drop n kept)
are_steps-drop zero kept now led = led
are_steps-drop (suc n) [] now led = led
are_steps-drop (suc n) (x ∷ xs) now led = are_steps-drop n xs _ led.2

pub leads-more : (capacity : ℕ) (kept : List KeptStep) (before : State) (step : Step) → Leads kept before → CanStep step before → Leads (with_step capacity kept before step) (stepped step before)
leads-more capacity kept before step led can = record { steps = are_steps-drop _ _ _ (are_steps-more _ _ _ led.steps can) }

first_state-back : (n : ℕ) (kept : List KeptStep) (now : State) → first_state (steps_back n kept) (state_back n kept now) ≡ first_state kept now
first_state-back n [] now = refl
first_state-back n (x ∷ xs) now =
    grind arith

are_steps-back : (n : ℕ) (kept : List KeptStep) (now : State) → AreStepsTo now kept → AreStepsTo (state_back n kept now) (steps_back n kept)
are_steps-back n [] now led = tt
are_steps-back n (x ∷ xs) now led =
    elim (is_order_back n x xs) as (λ b. AreStepsTo (cond b x.before (state_back n xs now)) (cond b [] (x ∷ steps_back n xs)))
    [ true ↦ tt | false ↦ (led.0, led.1 ∙ sym (first_state-back n xs _), are_steps-back n xs _ led.2) ]

pub leads-back : (n : ℕ) (kept : List KeptStep) (now : State) → Leads kept now → Leads (steps_back n kept) (state_back n kept now)
leads-back n kept now led = record { steps = are_steps-back n _ _ led.steps }

-- 1 for an order
abbrev pub order_count : Step → ℕ
order_count step = cond (is_order step) 1 0

-- whether a step is an order, as a number
pub bool_byte-order : (step : Step) (b : Bool) → b ≡ is_order step → bool_byte b ≡ order_count step
bool_byte-order step b e = rw e (bool_byte-count _)

pub orders_in-more : (kept : List KeptStep) (k : KeptStep) → orders_in (kept ++ k ∷ []) ≡ orders_in kept + order_count k.step
orders_in-more [] k = omega arith
orders_in-more (x ∷ xs) k = omega (arith, orders_in-more xs k)

pub orders_in-within : (kept : List KeptStep) → orders_in kept ≤ length kept
orders_in-within [] = omega arith
orders_in-within (k ∷ later) = within_more (is_order k.step) (orders_in later) (length later) (orders_in-within later)

is_order_back-more : (xs : List KeptStep) (k x : KeptStep) (m : ℕ) → is_order_back (m + order_count k.step) x (xs ++ k ∷ []) ≡ is_order_back m x xs
is_order_back-more xs k x m = grind (arith, orders_in-more, same_test)

-- going back over the last step
pub state_back-more : (kept : List KeptStep) (k : KeptStep) (now : State) (m : ℕ) → 1 ≤ m + order_count k.step → m ≤ orders_in kept → state_back (m + order_count k.step) (kept ++ k ∷ []) now ≡ state_back m kept k.before
state_back-more [] k now m h within = rw (last_test _ m h within)
state_back-more (x ∷ xs) k now m h within =
    rw (is_order_back-more xs k x m)
    (elim (is_order_back m x xs) as (λ b. is_order_back m x xs ≡ b → cond b x.before (state_back (m + order_count k.step) (xs ++ k ∷ []) now) ≡ cond b x.before (state_back m xs k.before))
    [ true ↦ λ e. refl | false ↦ λ e. state_back-more xs k _ m h (within_rest _ _ m e within) ] refl)

pub steps_back-more : (kept : List KeptStep) (k : KeptStep) (m : ℕ) → 1 ≤ m + order_count k.step → m ≤ orders_in kept → steps_back (m + order_count k.step) (kept ++ k ∷ []) ≡ steps_back m kept
steps_back-more [] k m h within = rw (last_test _ m h within)
steps_back-more (x ∷ xs) k m h within =
    rw (is_order_back-more xs k x m)
    (elim (is_order_back m x xs) as (λ b. is_order_back m x xs ≡ b → cond b [] (x ∷ steps_back (m + order_count k.step) (xs ++ k ∷ [])) ≡ cond b [] (x ∷ steps_back m xs))
    [ true ↦ λ e. refl | false ↦ λ e. ap (λ ks. x ∷ ks) (steps_back-more xs k m h (within_rest _ _ m e within)) ] refl)

no_order_back : (k : KeptStep) (later : List KeptStep) → is_order_back 0 k later ≡ false
no_order_back k later = none_back (is_order k.step) (orders_in later)

-- no order back is here
pub state_back-none : (kept : List KeptStep) (now : State) → state_back 0 kept now ≡ now
state_back-none [] now = refl
state_back-none (k ∷ later) now = rw (no_order_back k later) (state_back-none later now)

pub steps_back-none : (kept : List KeptStep) → steps_back 0 kept ≡ kept
steps_back-none [] = refl
steps_back-none (k ∷ later) = rw (no_order_back k _) (ap (λ ks. k ∷ ks) (steps_back-none _))

-- Orders that can be performed one after another, and the clock after steps.
use Rattle.std.proofs.Common.{◌≡◌, ℕ, zero, suc, ◌+◌, ◌-◌, ◌≤◌, sym, ap, ◌∙◌, subst, arith, ⊎_elim}
use Rattle.std.proofs.lemmas.Bool.{cases_lt}
use Rattle.lgp_table.specs.State.{State}
use Rattle.lgp_table.specs.Activity.{cost, next}
use Rattle.lgp_table.specs.After.{after}
use Rattle.lgp_table.specs.Interleaving.{Configuration, at_boundary}
use Rattle.lgp_table.proofs.After.{after_none, after_one_more, after_sum}
use Rattle.lgp_table.proofs.Costs.{cost_more}
use Rattle.lgp_machine.specs.Answers.{clock_end}
use Rattle.lgp_history.specs.Step.{Step, Perform, Press, Idle, Mount, Put}
use Rattle.lgp_history.specs.Steps.{CanStep, stepped}
use Rattle.lgp_past.specs.Past.{CanPerform}

pub can_none : (s : State) → CanPerform s 0
can_none s k h = absurd (omega arith)

-- what is left of them after some are performed
pub can_rest : (s : State) (done count : ℕ) → done ≤ count → CanPerform s count → CanPerform (after s done) (count - done)
can_rest s done count few can k h =
    subst (λ t. CanStep Perform t) (after_sum s done k) (can (done + k) (omega arith))

-- and others after them
pub can_more : (s : State) (count then : ℕ) → CanPerform s count → CanPerform (after s count) then → CanPerform s (count + then)
can_more s count then can others k h =
    ⊎_elim
    (λ before. can k before)
    (λ later.
    let same : count + (k - count) ≡ k = omega arith in
    let at : after (after s count) (k - count) ≡ after s k = sym (after_sum s count (k - count)) ∙ ap (after s) same in
    subst (λ t. CanStep Perform t) at (others (k - count) (omega arith)))
    (cases_lt k count)

-- the first ones of them
pub can_fewer : (s : State) (few count : ℕ) → few ≤ count → CanPerform s count → CanPerform s few
can_fewer s few count within can k h = can k (omega arith)

-- each order takes a word time at least
pub clock_passes : (s : State) (count : ℕ) → s.clock + count ≤ (after s count).clock
clock_passes s zero = let e = ap (λ (t : State). t.clock) (after_none s) in omega (arith, e)
clock_passes s (suc count) =
    let same : suc count ≡ count + 1 = omega arith in
    let one : (after s (suc count)).clock ≡ (after s count).clock + cost (after s count) = ap (λ (t : State). t.clock) (ap (after s) same ∙ after_one_more s count) in
    omega (arith, one, cost_more (after s count), clock_passes s count)

-- so there are no more of them than word times are left
pub orders_few : (s : State) (count : ℕ) → CanPerform s count → count ≤ clock_end - s.clock
orders_few s zero can = omega arith
orders_few s (suc count) can =
    let last = can count (omega arith) in
    omega (arith, last.1, cost_more (after s count), clock_passes s count)

-- no step takes the clock back
pub clock_stays : (step : Step) (s : State) → s.clock ≤ (stepped step s).clock
clock_stays Perform s = omega arith
clock_stays (Press action) s = omega arith
clock_stays (Idle times) s = omega arith
clock_stays (Mount codes) s = omega arith
clock_stays (Put address word) s = omega arith

-- the machine at the beginning of such orders, and one order later
pub begun_so : (now : Configuration) → now ≡ at_boundary now.state → now ≡ at_boundary (after now.state 0)
begun_so now is = is ∙ ap at_boundary (sym (after_none now.state))

pub performed_so : (s : State) (count : ℕ) (now new : Configuration) → now ≡ at_boundary (after s count) → new ≡ at_boundary (next now.state) → new ≡ at_boundary (after s (count + 1))
performed_so s count now new is moved =
    moved ∙ ap (λ (m : Configuration). at_boundary (next m.state)) is ∙ ap at_boundary (sym (after_one_more s count))

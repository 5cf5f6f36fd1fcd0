-- Activities one after another: that counts add up, and what the clock shows.
use Rattle.std.proofs.Common.{◌≡◌, ℕ, zero, suc, ◌+◌, ◌≤◌, refl, sym, ap, ◌∙◌, arith}
use Rattle.std.proofs.lemmas.List.FromFn.{sum_by-map-range_with_len_more}
use Rattle.lgp_table.specs.State.{State}
use Rattle.lgp_table.specs.Activity.{cost, next}
use Rattle.lgp_table.specs.After.{after, total_cost}

-- an equal count leads to an equal state
abbrev at_count : (s : State) (count other : ℕ) → count ≡ other → after s count ≡ after s other
at_count s count other same = ap (λ n. after s n) same

after_suc : (s : State) (count : ℕ) → after s (suc count) ≡ next (after s count)
unfolding after
after_suc s count = refl

pub after_none : (s : State) → after s 0 ≡ s
unfolding after
after_none s = refl

pub after_one_more : (s : State) (count : ℕ) → after s (count + 1) ≡ next (after s count)
after_one_more s count = at_count s (count + 1) (suc count) (omega arith) ∙ after_suc s _

pub after_sum : (s : State) (first then : ℕ) → after s (first + then) ≡ after (after s first) then
after_sum s first zero = at_count s (first + 0) first (omega arith) ∙ sym (after_none _)
after_sum s first (suc then) =
    at_count s (first + suc then) (suc (first + then)) (omega arith) ∙ (after_suc s _
    ∙ (ap next (after_sum s _ _) ∙ sym (after_suc _ _)))

-- the first activity, and then the others
pub after_first : (s : State) (count : ℕ) → after s (suc count) ≡ after (next s) count
after_first s zero = after_suc s 0 ∙ (ap next (after_none s) ∙ sym (after_none _))
after_first s (suc count) = grind (arith, after_suc, after_first s count)

clock_zero : (s : State) → (after s 0).clock ≡ s.clock + total_cost s 0
clock_zero s = ap (λ (t : State). t.clock) (after_none s) ∙ omega arith

clock_suc : (s : State) (count : ℕ) → (after s count).clock ≡ s.clock + total_cost s count → (after s (suc count)).clock ≡ s.clock + total_cost s (suc count)
clock_suc s count before =
    let cost_before = λ (k : ℕ). cost (after s k) in
    let more = sum_by-map-range_with_len_more (λ x. x) cost_before 0 count count (omega arith) in
    let same : total_cost s (suc count) ≡ total_cost s (count + 1) = ap (λ n. total_cost s n) (let e : suc count ≡ count + 1 = omega arith in e) in
    let now : (after s (suc count)).clock ≡ (after s count).clock + cost (after s count) = ap (λ (t : State). t.clock) (after_suc s _) in
    omega (arith, more, same, now, before)

pub clock_after : (s : State) (count : ℕ) → (after s count).clock ≡ s.clock + total_cost s count
clock_after s zero = clock_zero s
clock_after s (suc count) = clock_suc s _ (clock_after s _)

-- a later state is past the first activity at least
pub clock_past_first : (s : State) (count : ℕ) → s.clock + cost s ≤ (after s (suc count)).clock
clock_past_first s count =
    grind (arith, after_first, clock_after)

pub ruleset states_after = (after_sum, after_none, after_one_more, clock_after)

-- Sums of lists of numbers, and the clock beside a profile.
use Rattle.std.proofs.Common.{◌≡◌, ℕ, zero, suc, ◌+◌, ◌<◌, ◌≤◌, List, refl, arith, length, replicate, sum, slice_index, slice_set}
use Rattle.std.proofs.lemmas.List.Sums.{get_or-le-sum_by, sum_by-set}
use Rattle.lgp_table.specs.After.{after}
use Rattle.lgp_table.specs.State.{State}
use Rattle.lgp_trace.specs.Phases.{all_phases, only_act}
use Rattle.lgp_trace.specs.Profile.{Profiled, empty_profile, no_places, profile_of}
use Rattle.lgp_trace.specs.declared.phases.Phases.{Phases}
use Rattle.lgp_trace.proofs.PhaseLaws.{phases_cost}

pub sum_none : (count : ℕ) → sum (replicate count 0) ≡ 0
sum_none zero = refl
sum_none (suc count) = sum_none count

-- a profile of nothing, by its parts
pub nothing_profiled : (phases : Phases) (places : List ℕ) → phases ≡ only_act 0 → places ≡ replicate 4096 0 → (let profile : Profiled = record { phases = phases; places = places; elsewhere = 0 } in profile ≡ empty_profile)
unfolding no_places
nothing_profiled phases places none zeros = rw (none, zeros) refl

-- one number of a list that grows
pub sum_grown : (numbers : List ℕ) (at more : ℕ) → at < length numbers → sum (slice_set numbers at (slice_index numbers at + more)) ≡ sum numbers + more
sum_grown numbers at more within = omega (arith, sum_by-set (λ n. n) numbers at (slice_index numbers at + more) 0 within)

-- a number of a list is within its sum
pub sum_more : (numbers : List ℕ) (at : ℕ) → at < length numbers → slice_index numbers at ≤ sum numbers
sum_more numbers at within = get_or-le-sum_by _ _ at 0 within

pub ruleset sums = (sum_grown, sum_more)

-- the clock goes on by the word times of all phases
pub profile_clock : (s : State) (count : ℕ) → (after s count).clock ≡ s.clock + all_phases (profile_of s count).phases
unfolding after profile_of
profile_clock s zero = omega arith
profile_clock s (suc count) = omega (arith, profile_clock s count, phases_cost (after s count))

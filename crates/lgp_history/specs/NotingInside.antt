-- Serves proofs only: what is noted of the words that the recorded steps changed.
use Rattle.std.specs.Prelude.{◌≡◌, ◌≤◌, ◌<◌, ◌-◌, ℕ, List, length, Option, Some, None}
use Rattle.std.specs.Prelude.{slice_get, slice_index}
use Rattle.lgp_history.specs.RecordedInside.{Recorded}

-- by address one more than the clock at which the latest step began that is noted to have changed
-- the word there: the change of this step is noted
abbrev pub IsNoted : List ℕ → Recorded → Type 0
IsNoted changes r =
    (address : ℕ) → (word : ℕ) → r.lost ≡ Some (address, word)
    → r.mark.clock < slice_index changes address

-- the clock at which a step began, 0 where there is none
abbrev pub clock_or_none : Option Recorded → ℕ
clock_or_none None = 0
clock_or_none (Some r) = r.mark.clock

-- the clocks at which the first and the last step began
abbrev pub first_clock : List Recorded → ℕ
first_clock rs = clock_or_none (slice_get rs 0)

abbrev pub last_clock : List Recorded → ℕ
last_clock rs = clock_or_none (slice_get rs (length rs - 1))

-- no step began before an earlier one
abbrev pub AreInOrder : List Recorded → Type 0
AreInOrder rs =
    (i : ℕ) → (j : ℕ) → (r : Recorded) → (later : Recorded) → i ≤ j
    → slice_get rs i ≡ Some r → slice_get rs j ≡ Some later → r.mark.clock ≤ later.mark.clock

-- what is noted: the changes of all steps that began before a clock, which is not after the last one
pub record AreNoted (rs : List Recorded) (changes : List ℕ) (before : ℕ) : Type 0 where
  pub places : length changes ≡ 4096
  pub in_order : AreInOrder rs
  pub noted : (i : ℕ) → (r : Recorded) → slice_get rs i ≡ Some r → r.mark.clock < before
      → IsNoted changes r
  pub last : before ≤ last_clock rs

-- The rows of counts: one row more, and one turn more at some sectors of a row.
use Rattle.std.proofs.Common.{◌≡◌, ◌≢◌, ◌∙◌, ℕ, ◌+◌, ◌-◌, ◌*◌, ◌/◌, ◌<◌, ◌≤◌, ◌==◌, ◌&&◌, inl, inr, ◌++◌, Bool, true, false, List, length, replicate, take, slice_index, slice_set, leb, ltb, ap, refl, sym, arith, length-take}
use Rattle.std.proofs.lemmas.Bool.Decides.{nat_tests}
use Rattle.std.proofs.lemmas.Bool.{cases_eq, cases_lt, eq-eqb, le-leb, lt-ltb, ne_eqb}
use Rattle.std.proofs.lemmas.List.{get_or-append_right, get_or-replicate, get_or-take, get_or_default, get_or_past, same_lists, get_or-set_other, get_or-set_same, get_or_append_left, length-replicate}
use Rattle.lgp_optimum.specs.OptimumKept.{IsTurned, Turned}
use Rattle.lgp_optimum.specs.TurnsInside.{SameTurns, no_turns, one_turn_if}

abbrev zeros_of : ℕ → List ℕ
zeros_of count = replicate count 0

long_zeros : (count : ℕ) → length (zeros_of count) ≡ count
long_zeros count = length-replicate count 0

pub none_turned : IsTurned (replicate 4096 0) (replicate 64 0)
none_turned = record {
  words = long_zeros 4096;
  whole = λ word below.
      let row : slice_index (replicate 4096 0) word ≡ 0 = get_or-replicate 4096 word 0 0 below in
      omega (arith, row, long_zeros 64);
  full = refl;
  none = λ sector below. get_or-replicate 64 sector 0 0 below;
  apart = λ one other below other_below some same.
      let none : slice_index (replicate 4096 0) one ≡ 0 = get_or-replicate 4096 one 0 0 below in
      absurd (omega (arith, none));
}

module _ (rows counts zeros : List ℕ) (word fresh : ℕ) (h : IsTurned rows counts) (below : word < 4096) (none : slice_index rows word ≡ 0)
    (next : fresh ≡ length counts / 64) (long : length zeros ≡ 64) (blank : (k : ℕ) → k < 64 → slice_index zeros k ≡ 0) where
  here : slice_index (slice_set rows word fresh) word ≡ fresh
  here = get_or-set_same rows word fresh 0 (omega (arith, h.words))

  there : (other : ℕ) → other ≢ word → slice_index (slice_set rows word fresh) other ≡ slice_index rows other
  there other different = get_or-set_other rows word other fresh 0 different

  old_turns : (other sector : ℕ) → other < 4096 → sector < 64 → slice_index (counts ++ zeros) (64 * slice_index rows other + sector) ≡ slice_index counts (64 * slice_index rows other + sector)
  old_turns other sector other_below on_track = get_or_append_left counts zeros 0 (64 * slice_index rows other + sector) (omega (arith, h.whole other other_below))

  new_turns : (sector : ℕ) → sector < 64 → slice_index (counts ++ zeros) (64 * fresh + sector) ≡ 0
  new_turns sector on_track =
      let at : 64 * fresh + sector ≡ length counts + sector = omega (arith, next, h.full) in
      let back : length counts + sector - length counts ≡ sector = omega arith in
      ap (slice_index (counts ++ zeros)) at ∙ get_or-append_right counts zeros (length counts) (length counts + sector) 0 refl (omega arith) ∙ ap (slice_index zeros) back ∙ blank sector on_track

  same_at : (other sector : ℕ) → other < 4096 → sector < 64
      → slice_index (counts ++ zeros) (64 * slice_index (slice_set rows word fresh) other + sector) ≡ slice_index counts (64 * slice_index rows other + sector)
  same_at other sector other_below on_track = elim (cases_eq other word) [
    | inl same ↦
        let new_at : 64 * slice_index (slice_set rows word fresh) other + sector ≡ 64 * fresh + sector = omega (arith, ap (slice_index (slice_set rows word fresh)) same, here) in
        let old_at : 64 * slice_index rows other + sector ≡ sector = omega (arith, ap (slice_index rows) same, none) in
        ap (slice_index (counts ++ zeros)) new_at ∙ new_turns sector on_track ∙ sym (ap (slice_index counts) old_at ∙ h.none sector on_track)
    | inr different ↦
        ap (λ (n : ℕ). slice_index (counts ++ zeros) (64 * n + sector)) (there other different) ∙ old_turns other sector other_below on_track
  ]

  pub same_turns : (old new : Turned) → old.rows ≡ rows → old.counts ≡ counts → new.rows ≡ slice_set rows word fresh → new.counts ≡ counts ++ zeros → SameTurns old new
  same_turns old new old_rows old_counts new_rows new_counts = record {
    each = λ other sector other_below on_track. rw (old_rows, old_counts, new_rows, new_counts) (same_at other sector other_below on_track);
  }

  pub no_more : (at : ℕ) → slice_index (counts ++ zeros) at ≤ slice_index counts at
  no_more at = elim (cases_lt at (length counts)) [
    | inl old ↦ omega (arith, get_or_append_left counts zeros 0 at old)
    | inr new ↦ omega (arith, get_or-append_right counts zeros (length counts) at 0 refl new, all_blank (at - length counts))
  ] where
    all_blank : (k : ℕ) → slice_index zeros k ≡ 0
    all_blank k = elim (cases_lt k 64) [
      | inl on_track ↦ blank k on_track
      | inr past ↦ get_or_past zeros k 0 (omega (arith, long))
    ]

-- ---- turns added

abbrev in_row : ℕ → ℕ → Bool
in_row first at = leb first at && ltb at (first + 64)

-- one turn more at some sectors of one row is one more at those of its word, and of no other
pub word_turns : (rows counts more : List ℕ) (word : ℕ) (late : ℕ → Bool) → IsTurned rows counts → word < 4096 → 0 < slice_index rows word
    → ((at : ℕ) → slice_index more at ≡ slice_index counts at + one_turn_if (leb (64 * slice_index rows word) at && ltb at (64 * slice_index rows word + 64) && late (at - 64 * slice_index rows word)))
    → (other sector : ℕ) → other < 4096 → sector < 64
    → slice_index more (64 * slice_index rows other + sector) ≡ slice_index counts (64 * slice_index rows other + sector) + one_turn_if ((word == other) && late sector)
word_turns rows counts more word late h below some adds other sector other_below on_track = elim (cases_eq word other) [
  | inl same ↦
      let at : ℕ = 64 * slice_index rows other + sector in
      let first : ℕ = 64 * slice_index rows word in
      let row : slice_index rows word ≡ slice_index rows other = ap (slice_index rows) same in
      let from : leb first at ≡ true = le-leb first at (omega (arith, row)) in
      let to : ltb at (first + 64) ≡ true = lt-ltb at (first + 64) (omega (arith, row)) in
      let back : at - first ≡ sector = omega (arith, row) in
      let is : (word == other) ≡ true = eq-eqb word other same in
      adds at ∙ ap (λ (b : Bool). slice_index counts at + one_turn_if b)
      (ap (λ (b : Bool). b && ltb at (first + 64) && late (at - first)) from ∙ ap (λ (b : Bool). b && late (at - first)) to ∙ ap late back ∙ sym (ap (λ (b : Bool). b && late sector) is))
  | inr different ↦
      let at : ℕ = 64 * slice_index rows other + sector in
      let first : ℕ = 64 * slice_index rows word in
      let rows_differ : slice_index rows word ≢ slice_index rows other = λ (same : slice_index rows word ≡ slice_index rows other). different (h.apart word other below other_below some same) in
      let not_same : (word == other) ≡ false = ne_eqb word other different in
      let outside : in_row first at ≡ false = out_of_row (slice_index rows word) (slice_index rows other) sector on_track rows_differ in
      adds at ∙ ap (λ (b : Bool). slice_index counts at + one_turn_if b)
      (ap (λ (b : Bool). b && late (at - first)) outside ∙ sym (ap (λ (b : Bool). b && late sector) not_same))
] where
  out_of_row : (row other sector : ℕ) → sector < 64 → row ≢ other → in_row (64 * row) (64 * other + sector) ≡ false
  out_of_row row other sector on_track differ = grind (arith, nat_tests)

-- no turn, by its lists
pub none_turned_as : (rows counts : List ℕ) → rows ≡ replicate 4096 0 → counts ≡ replicate 64 0 → IsTurned rows counts
none_turned_as rows counts no_rows no_counts = rw (no_rows, no_counts) none_turned

pub no_turns_as : (rows counts : List ℕ) → rows ≡ replicate 4096 0 → counts ≡ replicate 64 0 → (let turned : Turned = record { rows = rows; counts = counts } in turned ≡ no_turns)
unfolding no_turns
no_turns_as rows counts no_rows no_counts = rw (no_rows, no_counts) refl

-- the first counts are zeros
pub first_blank : (rows counts : List ℕ) → IsTurned rows counts → take 64 counts ≡ replicate 64 0
first_blank rows counts h =
    let long : length (zeros_of 64) ≡ 64 = long_zeros 64 in
    same_lists _ _ (omega (arith, length-take 64 counts, long, h.whole 0 (omega arith)))
    (λ (k d : ℕ) (below : k < length (take 64 counts)).
    let on_track : k < 64 = omega (arith, length-take 64 counts) in
    get_or-take 64 counts k d on_track ∙ get_or_default counts k d 0 (omega (arith, h.whole 0 (omega arith))) ∙ h.none k on_track ∙ sym (get_or-replicate 64 k 0 d on_track))

-- a list that is filled by a function, place after place
pub filled_more : (f : ℕ → ℕ) (list : List ℕ) (done value : ℕ) → done < length list → value ≡ f done → ((k : ℕ) → k < done → slice_index list k ≡ f k)
    → (k : ℕ) → k < done + 1 → slice_index (slice_set list done value) k ≡ f k
filled_more f list done value within is so_far k below = elim (cases_eq k done) [
  | inl same ↦ ap (slice_index (slice_set list done value)) same ∙ get_or-set_same list done value 0 within ∙ is ∙ ap f (sym same)
  | inr different ↦ get_or-set_other list done k value 0 different ∙ so_far k (omega (arith, different, below))
]

-- The cells of lines without faults lie at places of their own.
use Rattle.std.proofs.Common.{◌≡◌, ◌≢◌, ◌⊎◌, ◌<◌, ◌≤◌, ◌-◌, ◌++◌, ◌&&◌, ◌||◌, ◌==◌, ℕ, Bool, true, false, if◌then◌else◌, List, [], ◌∷◌, length, map, slice_index_or, Option, None, Some, Result, Ok, Err, refl, sym, ap, ◌∙◌, arith, subst, inl, inr, ⊎_elim, nat_lt, option_to_list}
use Rattle.std.specs.Prelude.{IfSome}
use Rattle.std.specs.List.{All, AllPairs, list_any}
use Rattle.std.proofs.lemmas.Bool.{cases_Bool, cases_lt, cond-true, cond-false, eqb-true, lt-ltb, and_from, true≢false}
use Rattle.std.proofs.lemmas.Bool.Decides.{Decides-eqb, nat_tests}
use Rattle.std.proofs.lemmas.List.{append-nil, get_or-map, length-map}
use Rattle.std.proofs.lemmas.List.Elements.{All-push}
use Rattle.std.proofs.lemmas.List.Folds.{Any-from_list_any}
use Rattle.std.proofs.lemmas.List.Quantifiers.{all_pairs_push}
use Rattle.std.proofs.lemmas.Map.Made.{IsDistinct-from_AllPairs}
use Rattle.std.proofs.lemmas.Map.Steps.{length-le_from_distinct_below}
use Rattle.lgp_assembler.specs.declared.operands.Meaning.{Meaning}
use Rattle.lgp_assembler.specs.declared.operands.Meaning.TheVariants.{Cell, Place, Nothing}
use Rattle.lgp_assembler.specs.declared.operands.OperandFault.{OperandFault}
use Rattle.lgp_assembler.specs.Fields.{LineFields}
use Rattle.lgp_assembler.specs.Parts.{HaveOwnPlaces, is_loaders}
use Rattle.lgp_assembler.specs.Places.{has_word, place_of, has_ended, names_of, is_taken}
use Rattle.lgp_assembler.specs.ScanInside.{rows}
use Rattle.lgp_assembler.specs.Faults.{line_meaning, fault_of, faults_in}
use Rattle.lgp_assembler.specs.Image.{line_cell, cell_at, cells_in}
use Rattle.lgp_assembler.proofs.DraftSteps.{none_fails, append_none, list_none, word_within, word_free}
use Rattle.lgp_assembler.proofs.LineCells.{cell_missing}

-- ---- distinct places on the drum that are not the loader's are at most 4,074

abbrev IsFree : ℕ → Type 0
IsFree place = (place < 4032) ⊎ (4053 < place)

-- a place with the loader's 22 left out
squeezed : ℕ → ℕ
squeezed place = if nat_lt place 4032 then place else place - 22

low : (place : ℕ) → place < 4032 → squeezed place ≡ place
unfolding squeezed
low place less = cond-true (nat_lt place 4032) place (place - 22) (lt-ltb place 4032 less)

high : (place : ℕ) → 4053 < place → squeezed place ≡ place - 22
unfolding squeezed
high place above = cond-false (nat_lt place 4032) place (place - 22) (grind (arith, nat_tests))

squeezed_below : (place : ℕ) → place < 4096 → IsFree place → squeezed place < 4074
squeezed_below place within free = ⊎_elim
    (λ less. let e = low place less in omega (arith, e))
    (λ above. let e = high _ above in omega (arith, e))
    free

squeezed_apart : (one other : ℕ) → IsFree one → IsFree other → one ≢ other → squeezed one ≢ squeezed other
squeezed_apart one other free_one free_other apart same = ⊎_elim
    (λ less. let e = low one less in ⊎_elim
    (λ also. let f = low other also in apart (omega (arith, e, f, same)))
    (λ above. let f = high _ above in let wrong : ⊥ = omega (arith, e, f, same) in wrong)
    free_other)
    (λ above. let e = high _ above in ⊎_elim
    (λ less. let f = low other less in let wrong : ⊥ = omega (arith, e, f, same) in wrong)
    (λ also. let f = high _ also in apart (omega (arith, e, f, same)))
    free_other)
    free_one

module _ (cells : List (ℕ × ℕ)) (apart : AllPairs (λ one other. one.0 ≢ other.0) cells) (on_drum : All (λ cell. cell.0 < 4096) cells) (free : All (λ cell. IsFree cell.0) cells) where
  abbrev at : ℕ → ℕ
  at k = (slice_index_or cells k (0, 0)).0

  abbrev squeezed_places : List ℕ
  squeezed_places = map (λ cell. squeezed cell.0) cells

  as_many : length squeezed_places ≡ length cells
  as_many = length-map cells (λ cell. squeezed cell.0)

  squeezed_at : (k d : ℕ) → k < length cells → slice_index_or squeezed_places k d ≡ squeezed (at k)
  squeezed_at k d less = get_or-map _ _ k _ d less

  all_apart : AllPairs (λ one other. one ≢ other) squeezed_places
  all_apart i j d before less =
      let there : j < length cells = omega (arith, as_many, less) in
      let here : i < length cells = omega (arith, there, before) in
      let different = squeezed_apart _ _ (free i (0, 0) here) (free j (0, 0) there) (apart i j (0, 0) before there) in
      λ same. different (sym (squeezed_at i d here) ∙ (same ∙ squeezed_at j d there))

  all_below : (q : ℕ) → list_any (λ p. q == p) squeezed_places ≡ true → q < 4074
  all_below q found =
      let (k, p, less, at_k, same) = Any-from_list_any (λ p. q == p) squeezed_places found in
      let there : k < length cells = omega (arith, as_many, less) in
      let below = squeezed_below _ (on_drum k (0, 0) there) (free k (0, 0) there) in
      let is = sym (squeezed_at k p there) ∙ at_k in
      let equal = eqb-true q p same in
      omega (arith, below, is, equal)

  few_places : length cells ≤ 4074
  few_places =
      let few = length-le_from_distinct_below _ _ (IsDistinct-from_AllPairs Decides-eqb squeezed_places all_apart) all_below in
      omega (arith, few, as_many)

-- ---- a line more

-- what holds of the cells of some lines, the nearest first
record LieApart (lines : List LineFields) (cells : List (ℕ × ℕ)) : Type 0 where
  taken : All (λ cell. is_taken cell.0 lines ≡ true) cells
  apart : AllPairs (λ one other. one.0 ≢ other.0) cells
  on_drum : All (λ cell. cell.0 < 4096) cells
  free : All (λ cell. IsFree cell.0) cells

or_true : (b : Bool) → (b || true) ≡ true
or_true true = refl
or_true false = refl

still_taken : (line : LineFields) (earlier : List LineFields) (place : ℕ) → is_taken place earlier ≡ true → is_taken place (line ∷ earlier) ≡ true
unfolding is_taken
still_taken line earlier place is =
    grind (arith, or_true)

now_taken : (line : LineFields) (earlier : List LineFields) → has_word line ≡ true → is_taken (place_of line earlier) (line ∷ earlier) ≡ true
unfolding is_taken
now_taken line earlier word =
    grind (arith, and_from)

outside : (place : ℕ) → is_loaders place ≡ false → IsFree place
outside place e = ⊎_elim (λ less. inl less) (λ le. inr (grind (arith, nat_tests))) (cases_lt place 4032)

its_place : (place : ℕ) (r : Result Meaning OperandFault) → IfSome (cell_at place r) (λ cell. cell.0 ≡ place)
its_place place (Ok (Cell word)) = refl
its_place place (Ok (Place address)) = tt
its_place place (Ok Nothing) = tt
its_place place (Err fault) = tt

without : (line : LineFields) (earlier : List LineFields) (cells : List (ℕ × ℕ)) → LieApart earlier cells → LieApart (line ∷ earlier) cells
without line earlier cells lie = record {
  taken = λ k d less. still_taken _ _ _ (lie.taken k d less);
  apart = lie.apart;
  on_drum = lie.on_drum;
  free = lie.free;
}

with_one : (line : LineFields) (earlier : List LineFields) (cells : List (ℕ × ℕ)) (cell : ℕ × ℕ) → LieApart earlier cells → cell.0 ≡ place_of line earlier
    → has_word line ≡ true → place_of line earlier < 4096 → is_loaders (place_of line earlier) ≡ false → is_taken (place_of line earlier) earlier ≡ false
    → LieApart (line ∷ earlier) (cells ++ cell ∷ [])
with_one line earlier cells cell lie at word within free fresh =
    record {
      taken = All-push (λ cell. is_taken cell.0 (line ∷ earlier) ≡ true) cells cell (without _ _ _ lie).taken
          (ap (λ p. is_taken p (line ∷ earlier)) at ∙ now_taken _ _ word);
      apart = all_pairs_push (λ one other. one.0 ≢ other.0) cells cell lie.apart
          (λ k d less same. true≢false (sym (lie.taken k d less) ∙ (ap (λ p. is_taken p earlier) (same ∙ at) ∙ fresh)));
      on_drum = All-push (λ cell. cell.0 < 4096) cells cell lie.on_drum (subst (λ p. p < 4096) (sym at) within);
      free = All-push (λ cell. IsFree cell.0) cells cell lie.free (subst IsFree (sym at) (outside _ free));
    }

module _ (names : List (List ℕ × ℕ)) where
  one_more : (line : LineFields) (earlier : List LineFields) (cells : List (ℕ × ℕ)) → LieApart earlier cells → fault_of names line earlier ≡ None
      → LieApart (line ∷ earlier) (cells ++ option_to_list (line_cell names earlier line))
  unfolding fault_of
  one_more line earlier cells lie faultless =
      let place = place_of line earlier in
      let meaning = line_meaning names place line in
      let fails = none_fails (rows line meaning place (has_ended earlier) (names_of earlier) (is_taken place earlier)) faultless in
      ⊎_elim
      (λ word.
      let within = word_within line place fails.1.1.1.1.1.1.1.1.1.1.0 word in
      let free = word_free line place fails.1.1.1.1.1.1.1.1.1.1.1.0 word in
      let fresh : is_taken place earlier ≡ false = sym (ap (λ w. w && is_taken place earlier) word) ∙ fails.1.1.1.1.1.1.1.1.1.1.1.1.0 in
      either _ (its_place _ _) (λ cell at. with_one _ _ _ _ lie at word within free fresh))
      (λ none. subst (λ o. LieApart (line ∷ earlier) (cells ++ option_to_list o)) (sym (cell_missing names earlier line faultless none))
      (subst (LieApart (line ∷ earlier)) (sym (append-nil cells)) (without _ _ _ lie)))
      (cases_Bool (has_word line))
    where
      either : (o : Option (ℕ × ℕ)) → IfSome o (λ cell. cell.0 ≡ place_of line earlier) → ((cell : ℕ × ℕ) → cell.0 ≡ place_of line earlier → LieApart (line ∷ earlier) (cells ++ cell ∷ [])) → LieApart (line ∷ earlier) (cells ++ option_to_list o)
      either None at some = subst (LieApart (line ∷ earlier)) (sym (append-nil cells)) (without _ _ _ lie)
      either (Some cell) at some = some cell at

  lie_apart : (lines : List LineFields) → faults_in names lines ≡ [] → LieApart lines (cells_in names lines)
  unfolding faults_in cells_in
  lie_apart [] none = record {
    taken = λ k d less. absurd (let wrong : ⊥ = omega (arith, less) in wrong);
    apart = λ i j d before less. absurd (let wrong : ⊥ = omega (arith, less) in wrong);
    on_drum = λ k d less. absurd (let wrong : ⊥ = omega (arith, less) in wrong);
    free = λ k d less. absurd (let wrong : ⊥ = omega (arith, less) in wrong);
  }
  lie_apart (line ∷ earlier) none =
      let both = append_none _ _ none in
      one_more line earlier (cells_in names earlier) (lie_apart _ both.0) (list_none _ _ both.1)

  pub own_places : (lines : List LineFields) → faults_in names lines ≡ [] → HaveOwnPlaces (cells_in names lines)
  own_places lines none =
      let lie = lie_apart _ none in
      record {
        apart = lie.apart;
        on_drum = lie.on_drum;
        free = lie.free;
        few = few_places (cells_in names lines) lie.apart lie.on_drum lie.free;
      }

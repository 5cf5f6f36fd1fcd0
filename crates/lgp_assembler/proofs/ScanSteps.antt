-- One line more in a scan.
use Rattle.std.proofs.Common.{◌≡◌, ◌≢◌, ◌<◌, ◌≤◌, ◌+◌, ◌&&◌, ◌||◌, ◌==◌, ◌++◌, ℕ, zero, suc, Bool, true, false, List, ◌∷◌, length, slice_index_or, slice_set, replicate, option_to_list, if◌then◌else◌, refl, sym, ap, ◌∙◌, arith, ⊎_elim, length-set}
use Rattle.std.proofs.lemmas.Bool.{cases_eq, eq-eqb, ne_eqb}
use Rattle.std.proofs.lemmas.List.{get_or-set_same, get_or-set_other}
use Rattle.lgp_assembler.specs.Fields.{LineFields}
use Rattle.lgp_assembler.specs.Places.{has_word, word_count, next_place, place_reached, place_of, is_end, has_ended, new_label, names_of, is_taken}
use Rattle.lgp_assembler.specs.ScanInside.{Stands, ArePlacesTaken}

pub clear_places : (taken : List Bool) (n p : ℕ) → taken ≡ replicate n false → slice_index_or taken p false ≡ false
clear_places taken n p e = ap (λ m. slice_index_or m p false) e ∙ blank n p
  where
    blank : (n p : ℕ) → slice_index_or (replicate n false) p false ≡ false
    blank zero p = refl
    blank (suc n) zero = refl
    blank (suc n) (suc p) = blank n p

marked : (has_one : Bool) (here p : ℕ) (taken : List Bool) (before : Bool) → p < length taken → slice_index_or taken p false ≡ before
    → slice_index_or (if has_one then slice_set taken here true else taken) p false ≡ ((has_one && here == p) || before)
marked false here p taken before within was = was
marked true here p taken before within was = ⊎_elim
    (λ same.
    let mark : slice_index_or (slice_set taken here true) p false ≡ true =
    ap (λ i. slice_index_or (slice_set taken i true) p false) same ∙ get_or-set_same taken p true false within in
    mark ∙ sym (ap (λ t. t || before) (eq-eqb here p same)))
    (λ other.
    let apart : p ≢ here = λ e. other (sym e) in
    get_or-set_other taken here p true false apart ∙ was ∙ sym (ap (λ t. t || before) (ne_eqb here p other)))
    (cases_eq here p)

size_kept : (has_one : Bool) (here : ℕ) (taken : List Bool) → length (if has_one then slice_set taken here true else taken) ≡ length taken
size_kept false here taken = refl
size_kept true here taken = length-set taken here true

pub taken_step : (taken taken' : List Bool) (earlier : List LineFields) (line : LineFields) → ArePlacesTaken taken earlier
    → taken' ≡ (if has_word line then slice_set taken (place_of line earlier) true else taken) → ArePlacesTaken taken' (line ∷ earlier)
unfolding is_taken
taken_step taken taken' earlier line marks e = record {
  length_is = ap length e ∙ size_kept _ _ _ ∙ marks.length_is;
  places_are = λ p small.
      let within : p < length taken = omega (arith, marks.length_is) in
      ap (λ t. slice_index_or t p false) e ∙ marked _ _ p _ _ within (marks.places_are p small);
}

pub stands_step : (lines place : ℕ) (ended : Bool) (names : List (List ℕ × ℕ)) (earlier : List LineFields) (line : LineFields) (lines' place' : ℕ) (ended' : Bool) (names' : List (List ℕ × ℕ))
    → Stands lines place ended names earlier
    → lines' ≡ lines + 1
    → names' ≡ names ++ option_to_list (new_label line.label (place_reached line place) ended names)
    → place' ≡ place_reached line place + word_count line
    → ended' ≡ (is_end line.operation || ended)
    → Stands lines' place' ended' names' (line ∷ earlier)
unfolding next_place has_ended names_of
stands_step lines place ended _ earlier line lines' place' ended' names' s lines_e names_e place_e ended_e =
    grind (arith, ended)

-- what a pass adds, in the place of the line
pub names_at : (line : LineFields) (here place : ℕ) (ended : Bool) (names : List (List ℕ × ℕ)) → here ≡ place_reached line place
    → names ++ option_to_list (new_label line.label here ended names) ≡ names ++ option_to_list (new_label line.label (place_reached line place) ended names)
names_at line here place ended names e = ap (λ h. names ++ option_to_list (new_label line.label h ended names)) e

pub place_at : (line : LineFields) (here place : ℕ) → here ≡ place_reached line place → here + word_count line ≡ place_reached line place + word_count line
place_at line here place e = ap (λ h. h + word_count line) e

pub word_count_small : (line : LineFields) → word_count line ≤ 1
word_count_small line = pick (has_word line)
  where
    pick : (b : Bool) → (if b then 1 else 0) ≤ 1
    pick true = omega arith
    pick false = omega arith

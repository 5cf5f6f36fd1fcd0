-- A line of which the same is kept as of another one.
use Rattle.std.proofs.Common.{◌≡◌, ℕ, ◌+◌, ◌<◌, ◌≤◌, ◌&&◌, Bool, true, false, cond, List, [], ◌∷◌, ◌++◌, length, take, drop, take-append-drop, refl, sym, ap, ⊎_elim, ◌∙◌, arith, nat_lt, length-append}
use Rattle.std.proofs.lemmas.Bool.Decides.{nat_tests}
use Rattle.std.proofs.lemmas.Bool.{cases_lt}
use Rattle.std.proofs.lemmas.List.{length-take-le, take-append-le, take_all}
use Rattle.std.proofs.lemmas.List.Folds.{list_all-append}
use Rattle.std.specs.List.{list_all}
use Rattle.lgp_stream.specs.KeptLine.{Kept, kept_of, line_limit}
use Rattle.lgp_stream.specs.LineWords.{is_space}
use Rattle.lgp_stream.specs.Transcript.{stand_in}

-- the same for any limit
front : (limit : ℕ) (line : List ℕ) (last : ℕ) → limit < length line → take limit (take limit line ++ last ∷ []) ≡ take limit line
front limit line last long =
    let within : limit ≤ length line = omega arith in
    let full : length (take limit line) ≡ limit = length-take-le limit line within in
    let enough : limit ≤ length (take limit line) = omega arith in
    let short : length (take limit line) ≤ limit = omega arith in
    take-append-le limit (take limit line) (last ∷ []) enough ∙ take_all limit (take limit line) short

longer : (limit : ℕ) (line : List ℕ) (last : ℕ) → limit < length line → nat_lt limit (length (take limit line ++ last ∷ [])) ≡ true
longer limit line last long =
    let within : limit ≤ length line = omega arith in
    let full : length (take limit line) ≡ limit = length-take-le limit line within in
    let more : length (take limit line ++ last ∷ []) ≡ length (take limit line) + 1 = length-append (take limit line) (last ∷ []) in
    grind (arith, nat_tests)

all_taken : (p : ℕ → Bool) (n : ℕ) (line : List ℕ) → list_all p line ≡ true → list_all p (take n line) ≡ true
all_taken p n line all = first (list_all p (take n line)) (list_all p (drop n line)) (sym (list_all-append p _ (drop n line)) ∙ (ap (list_all p) (take-append-drop n line) ∙ all)) where
  first : (a b : Bool) → (a && b) ≡ true → a ≡ true
  first true b both = refl
  first false b both = both

blank : (limit : ℕ) (line : List ℕ) → list_all is_space (take limit line ++ cond (list_all is_space line) 32 46 ∷ []) ≡ list_all is_space line
blank limit line = by_blank _ refl where
  by_blank : (all : Bool) → list_all is_space line ≡ all → list_all is_space (take limit line ++ cond all 32 46 ∷ []) ≡ all
  by_blank true e = grind (arith, list_all-append, all_taken)
  by_blank false e = list_all-append is_space (take limit line) (46 ∷ []) ∙ and_false _ where
    and_false : (b : Bool) → (b && false) ≡ false
    and_false true = refl
    and_false false = refl

-- what is kept with any limit, and what stands in for it
abbrev kept_to : ℕ → List ℕ → Kept
kept_to limit line = record { front = take limit line; longer = nat_lt limit (length line); blank = list_all is_space line }

abbrev stand_in_to : ℕ → List ℕ → List ℕ
stand_in_to limit line = cond (nat_lt limit (length line)) (take limit line ++ cond (list_all is_space line) 32 46 ∷ []) (take limit line)

kept_alike : (limit : ℕ) (line : List ℕ) → kept_to limit (stand_in_to limit line) ≡ kept_to limit line
kept_alike limit line = ⊎_elim
    (λ (long : limit < length line).
    let last : ℕ = cond (list_all is_space line) 32 46 in
    let test : nat_lt limit (length line) ≡ true = grind (arith, nat_tests) in
    let fronts : take limit (take limit line ++ cond (list_all is_space line) 32 46 ∷ []) ≡ take limit line = front limit line last long in
    let longers : nat_lt limit (length (take limit line ++ cond (list_all is_space line) 32 46 ∷ [])) ≡ true = longer limit line last long in
    rw (test, fronts, longers, blank limit line) refl)
    (λ (short : length line ≤ limit).
    let test : nat_lt limit (length line) ≡ false = grind (arith, nat_tests) in
    let all : take limit line ≡ line = take_all limit line short in
    rw (test, all, test, all) refl)
    (cases_lt limit (length line))

pub kept-stand_in : (line : List ℕ) → kept_of (stand_in (kept_of line)) ≡ kept_of line
unfolding kept_of stand_in
kept-stand_in line = kept_alike line_limit line

pub stand_in-short : (line : List ℕ) → length line ≤ line_limit → stand_in (kept_of line) ≡ line
unfolding kept_of stand_in
stand_in-short line short =
    let test : nat_lt line_limit (length line) ≡ false = grind (arith, nat_tests) in
    rw test (take_all line_limit line short)

pub ruleset stand_ins = (kept-stand_in, stand_in-short)

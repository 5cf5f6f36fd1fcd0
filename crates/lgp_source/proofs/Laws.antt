-- The laws on comments and tokens.
use Rattle.std.proofs.Common.{◌≡◌, ◌<◌, ◌≤◌, ◌+◌, ◌-◌, ℕ, suc, Bool, true, false, List, [], ◌∷◌, ◌==◌, ◌&&◌, ◌||◌, length, take, drop, get_or, slice_index, refl, sym, ap, subst, ◌∙◌, arith, inl, inr, ⊎_elim, length-drop}
use Rattle.std.specs.List.{position_or_len}
use Rattle.std.proofs.lemmas.Bool.{cases_Bool, cases_eq, cases_lt, cond-true, cond-false, ne_eqb, true≢false, false≢true}
use Rattle.std.proofs.lemmas.List.{get_or-drop, drop-drop, drop-take, take-take}
use Rattle.std.proofs.lemmas.List.Sums.{passes_at_first, fails_before_first}
use Rattle.lgp_source.specs.Source.{SourceToken, is_blank, tokens_from, token_at, body_from, before_comment, tokens_of}
use Rattle.lgp_source.specs.Runs.{follows_blank, begins_comment, IsUpToComment, IsLongestRun, IsSlice, Each, IsSpanned, AllAreSpanned, AreInOrder}
use Rattle.lgp_source.proofs.Places.{after_blank, after_visible, at_token, run_more, run_none, place_within}

-- ---- a rest of a text, byte by byte

module _ (whole : List ℕ) where
  here : (place b : ℕ) (rest : List ℕ) → b ∷ rest ≡ drop place whole → slice_index whole place ≡ b
  here place b rest e =
      let at : place ≡ place + 0 = omega arith in
      ap (λ k. get_or whole k 0) at ∙ sym (get_or-drop place whole 0 0) ∙ ap (λ xs. get_or xs 0 0) (sym e)

  onward : (place b : ℕ) (rest : List ℕ) → b ∷ rest ≡ drop place whole → rest ≡ drop (place + 1) whole
  onward place b rest e = ap (drop 1) e ∙ drop-drop 1 place whole

  inside : (place b : ℕ) (rest : List ℕ) → b ∷ rest ≡ drop place whole → place < length whole
  inside place b rest e =
      let n : suc (length rest) ≡ length (drop place whole) = ap length e in
      omega (arith, length-drop place whole)

  follows : (place b : ℕ) (rest : List ℕ) → b ∷ rest ≡ drop place whole → follows_blank whole (place + 1) ≡ is_blank b
  follows place b rest e =
      let other : (place + 1 == 0) ≡ false = ne_eqb (place + 1) 0 (omega arith) in
      let back : place + 1 - 1 ≡ place = omega arith in
      ap (λ t. t || is_blank (slice_index whole (place + 1 - 1))) other ∙ ap (λ k. is_blank (slice_index whole k)) back ∙ ap is_blank (here place b rest e)

  -- ---- tokens

  one_run : (place b : ℕ) (rest : List ℕ) → b ∷ rest ≡ drop place whole → is_blank b ≡ false → follows_blank whole place ≡ true → IsLongestRun whole (token_at place (b ∷ rest))
  one_run place b rest e visible starts =
      let body = b ∷ rest in
      let m = position_or_len is_blank body in
      let more : m ≡ suc (position_or_len is_blank rest) = run_more b rest visible in
      let short : m ≤ length body = place_within is_blank body in
      let n : length body ≡ length (drop place whole) = ap length e in
      let left = length-drop place whole in
      let size : m ≡ place + m - place = omega arith in
      record {
        some = omega arith;
        within = omega (arith, inside _ b _ e);
        slice = ap (λ k. take k body) size ∙ ap (take (place + m - place)) e;
        visible = λ k low high.
            let at : place + (k - place) ≡ k = omega arith in
            let below : k - place < m = omega arith in
            ap (λ j. is_blank (get_or whole j 0)) (sym at) ∙ ap is_blank (sym (get_or-drop place whole (k - place) 0)) ∙ ap (λ xs. is_blank (get_or xs (k - place) 0)) (sym e) ∙ fails_before_first is_blank body (k - place) 0 below;
        starts = starts;
        ends = λ before.
            let below : m < length body = omega arith in
            ap is_blank (sym (get_or-drop place whole m 0)) ∙ ap (λ xs. is_blank (get_or xs m 0)) (sym e) ∙ passes_at_first is_blank body 0 below;
      }

  pub all_runs : (place : ℕ) (fresh : Bool) (rest : List ℕ) → rest ≡ drop place whole → (fresh ≡ true → follows_blank whole place ≡ true) → Each (IsLongestRun whole) (tokens_from place fresh rest)
  all_runs place fresh [] e starts = tt
  all_runs place true (b ∷ rest) e starts = ⊎_elim
      (λ blank. subst (Each (IsLongestRun whole)) (sym (after_blank place b true rest blank)) (all_runs (place + 1) true rest (onward place b rest e) (λ _. follows place b rest e ∙ blank)))
      (λ visible. subst (Each (IsLongestRun whole)) (sym (at_token place b rest visible))
      (one_run place b rest e visible (starts refl), all_runs (place + 1) false rest (onward place b rest e) (λ f. absurd (false≢true f))))
      (cases_Bool (is_blank b))
  all_runs place false (b ∷ rest) e starts = ⊎_elim
      (λ blank. subst (Each (IsLongestRun whole)) (sym (after_blank place b false rest blank)) (all_runs (place + 1) true rest (onward place b rest e) (λ _. follows place b rest e ∙ blank)))
      (λ visible. subst (Each (IsLongestRun whole)) (sym (after_visible place b rest visible)) (all_runs (place + 1) false rest (onward place b rest e) (λ f. absurd (false≢true f))))
      (cases_Bool (is_blank b))

  -- a visible place that is not the one of a blank comes later
  later : (place b : ℕ) (rest : List ℕ) (k : ℕ) → b ∷ rest ≡ drop place whole → place ≤ k → is_blank b ≡ true → is_blank (slice_index whole k) ≡ false → place + 1 ≤ k
  later place b rest k e low blank visible = ⊎_elim
      (λ same. absurd (true≢false (sym blank ∙ ap is_blank (sym (here place b rest e)) ∙ ap (λ j. is_blank (slice_index whole j)) same ∙ visible)))
      (λ other. omega arith)
      (cases_eq place k)

  pub all_spanned : (place : ℕ) (fresh : Bool) (rest : List ℕ) → rest ≡ drop place whole → (k : ℕ) → place ≤ k → k < length whole → is_blank (slice_index whole k) ≡ false
      → (fresh ≡ false → place + position_or_len is_blank rest ≤ k) → IsSpanned k (tokens_from place fresh rest)
  all_spanned place fresh [] e k low high _ past =
      let none : 0 ≡ length (drop place whole) = ap length e in
      absurd (omega (arith, length-drop place whole))
  all_spanned place true (b ∷ rest) e k low high visible past = ⊎_elim
      (λ blank. subst (IsSpanned k) (sym (after_blank place b true rest blank))
      (all_spanned (place + 1) true rest (onward place b rest e) k (later place b rest k e low blank visible) high visible (λ f. absurd (true≢false f))))
      (λ seen. subst (IsSpanned k) (sym (at_token place b rest seen))
      (let more : position_or_len is_blank (b ∷ rest) ≡ suc (position_or_len is_blank rest) = run_more b rest seen in
      ⊎_elim
      (λ within. inl (low, within))
      (λ after. inr (all_spanned (place + 1) false rest (onward place b rest e) k (omega arith) high visible (λ _. omega arith)))
      (cases_lt k (place + position_or_len is_blank (b ∷ rest)))))
      (cases_Bool (is_blank b))
  all_spanned place false (b ∷ rest) e k low high visible past = ⊎_elim
      (λ blank. subst (IsSpanned k) (sym (after_blank place b false rest blank))
      (all_spanned (place + 1) true rest (onward place b rest e) k (later place b rest k e low blank visible) high visible (λ f. absurd (true≢false f))))
      (λ seen. subst (IsSpanned k) (sym (after_visible place b rest seen))
      (let more : position_or_len is_blank (b ∷ rest) ≡ suc (position_or_len is_blank rest) = run_more b rest seen in
      let reached : place + position_or_len is_blank (b ∷ rest) ≤ k = past refl in
      all_spanned (place + 1) false rest (onward place b rest e) k (omega arith) high visible (λ _. omega arith)))
      (cases_Bool (is_blank b))

pub in_order : (place : ℕ) (fresh : Bool) (rest : List ℕ) (from : ℕ) → (fresh ≡ true → from ≤ place) → (fresh ≡ false → from ≤ place + position_or_len is_blank rest + 1) → AreInOrder from (tokens_from place fresh rest)
in_order place fresh [] from _ if_not = tt
in_order place true (b ∷ rest) from if_fresh if_not =
    let low : from ≤ place = if_fresh refl in
    ⊎_elim
    (λ blank. subst (AreInOrder from) (sym (after_blank place b true rest blank)) (in_order (place + 1) true rest from (λ _. omega arith) (λ f. absurd (true≢false f))))
    (λ seen. subst (AreInOrder from) (sym (at_token _ b rest seen))
    (let more : position_or_len is_blank (b ∷ rest) ≡ suc (position_or_len is_blank rest) = run_more b rest seen in
    (low, in_order (place + 1) false rest (place + position_or_len is_blank (b ∷ rest) + 1) (λ f. absurd (false≢true f)) (λ _. omega arith))))
    (cases_Bool (is_blank b))
in_order place false (b ∷ rest) from _ if_not =
    let low : from ≤ place + position_or_len is_blank (b ∷ rest) + 1 = if_not refl in
    ⊎_elim
    (λ blank. subst (AreInOrder from) (sym (after_blank place b false rest blank))
    (let none : position_or_len is_blank (b ∷ rest) ≡ 0 = run_none b rest blank in
    in_order (place + 1) true rest from (λ _. omega arith) (λ f. absurd (true≢false f))))
    (λ seen. subst (AreInOrder from) (sym (after_visible place b rest seen))
    (let more : position_or_len is_blank (b ∷ rest) ≡ suc (position_or_len is_blank rest) = run_more b rest seen in
    in_order (place + 1) false rest from (λ f. absurd (false≢true f)) (λ _. omega arith)))
    (cases_Bool (is_blank b))

-- ---- comments

-- `body` is the text from a place on up to the first comment
record IsRestToComment (whole : List ℕ) (place : ℕ) (rest body : List ℕ) : Type 0 where
  front : body ≡ take (length body) rest
  none_before : (k : ℕ) → k < length body → begins_comment whole (place + k) ≡ false
  then_comment : length body < length rest → begins_comment whole (place + length body) ≡ true

module _ (whole : List ℕ) where
  one_more : (place b : ℕ) (rest body : List ℕ) → begins_comment whole place ≡ false → IsRestToComment whole (place + 1) rest body → IsRestToComment whole place (b ∷ rest) (b ∷ body)
  one_more place b rest body not_here after = record {
    front = ap (λ t. b ∷ t) after.front;
    none_before = λ k high. ⊎_elim
        (λ first.
        let at : place + k ≡ place = omega arith in
        ap (begins_comment whole) at ∙ not_here)
        (λ other.
        let at : place + k ≡ place + 1 + (k - 1) = omega arith in
        ap (begins_comment whole) at ∙ after.none_before (k - 1) (omega arith))
        (cases_eq k 0);
    then_comment = λ short.
        let at : place + suc (length body) ≡ place + 1 + length body = omega arith in
        ap (begins_comment whole) at ∙ after.then_comment (omega arith);
  }

  rest_to_comment : (place : ℕ) (fresh : Bool) (rest : List ℕ) → rest ≡ drop place whole → follows_blank whole place ≡ fresh → IsRestToComment whole place rest (body_from fresh rest)
  rest_to_comment place fresh [] e starts = record {
    front = refl;
    none_before = λ k high. absurd (omega arith);
    then_comment = λ short. absurd (omega arith);
  }
  rest_to_comment place fresh (b ∷ rest) e starts =
      let test : begins_comment whole place ≡ (fresh && b == 59) = ap (λ t. t && slice_index whole place == 59) starts ∙ ap (λ x. fresh && x == 59) (here whole place b rest e) in
      ⊎_elim
      (λ comment. subst (IsRestToComment whole place (b ∷ rest)) (sym (cond-true (fresh && b == 59) [] (b ∷ body_from (is_blank b) rest) comment)) (record {
        front = refl;
        none_before = λ k high. absurd (omega arith);
        then_comment = λ short.
            let at : place + 0 ≡ place = omega arith in
            ap (begins_comment whole) at ∙ test ∙ comment;
      }))
      (λ other. subst (IsRestToComment whole place (b ∷ rest)) (sym (cond-false (fresh && b == 59) [] (b ∷ body_from (is_blank b) rest) other))
      (one_more place b rest (body_from (is_blank b) rest) (test ∙ other) (rest_to_comment (place + 1) (is_blank b) rest (onward whole place b rest e) (follows whole place b rest e))))
      (cases_Bool (fresh && b == 59))

pub up_to_comment : (text : List ℕ) → IsUpToComment text (before_comment text)
up_to_comment text =
    let h = rest_to_comment _ 0 _ text refl refl in
    record {
      front = h.front;
      none_before = λ k high.
          let at : 0 + k ≡ k = omega arith in
          ap (begins_comment text) (sym at) ∙ h.none_before k high;
      then_comment = λ short.
          let at : 0 + length (before_comment text) ≡ length (before_comment text) = omega arith in
          ap (begins_comment text) (sym at) ∙ h.then_comment short;
    }

-- ---- the tokens of a text

pub longest_runs : (text : List ℕ) → Each (IsLongestRun (before_comment text)) (tokens_of text)
longest_runs text = all_runs (before_comment text) 0 true (before_comment text) refl (λ _. refl)

pub each_spanned : (text : List ℕ) → AllAreSpanned (before_comment text) (tokens_of text)
each_spanned text = λ k high visible. all_spanned _ 0 _ (before_comment text) refl k (omega arith) high visible (λ f. absurd (true≢false f))

pub tokens_in_order : (text : List ℕ) → AreInOrder 0 (tokens_of text)
tokens_in_order text = in_order 0 true (before_comment text) 0 (λ _. omega arith) (λ f. absurd (true≢false f))

part_of_front : (text : List ℕ) (n first past : ℕ) → first ≤ past → past ≤ n → take (past - first) (drop first (take n text)) ≡ take (past - first) (drop first text)
part_of_front text n first past order within =
    let size : n ≡ first + (n - first) = omega arith in
    ap (λ m. take (past - first) (drop first (take m text))) size ∙ ap (take (past - first)) (drop-take first (n - first) text)
    ∙ take-take (past - first) (n - first) (drop first text) (omega arith)

runs_are_slices : (text body : List ℕ) (tokens : List SourceToken) → body ≡ take (length body) text → Each (IsLongestRun body) tokens → Each (IsSlice text) tokens
runs_are_slices text body [] front runs = tt
runs_are_slices text body (token ∷ tokens) front runs =
    grind (arith, part_of_front, runs_are_slices text body tokens front runs.1)

pub token_slices : (text : List ℕ) → Each (IsSlice text) (tokens_of text)
token_slices text = runs_are_slices text (before_comment text) (tokens_of text) (up_to_comment text).front (longest_runs text)

pub ruleset token_laws = (up_to_comment, longest_runs, token_slices, each_spanned, tokens_in_order)

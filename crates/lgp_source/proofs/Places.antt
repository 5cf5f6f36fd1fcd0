-- How the tokens of a text come one after the other.
use Rattle.std.proofs.Common.{◌≡◌, ◌<◌, ◌≤◌, ◌+◌, ◌-◌, ℕ, suc, Bool, true, false, not, List, [], ◌∷◌, length, take, drop, get_or, refl, sym, ap, subst, ◌∙◌, arith, ⊎_elim, Some, None, unwrap_or, cond, length-drop}
use Rattle.std.specs.List.{position, position_or_len}
use Rattle.std.proofs.lemmas.Bool.{cases_Bool, cases_lt, cond-true, cond-false, lt-ltb, le-ltb, not-true}
use Rattle.std.proofs.lemmas.List.{take_rest, get_or-drop, drop-drop, drop_all, drop_more}
use Rattle.std.proofs.lemmas.List.Sums.{prefix_len-le-length, passes_at_first}
use Rattle.std.proofs.lemmas.Option.{cond_some}
use Rattle.lgp_source.specs.CuttingInside.{is_visible}
use Rattle.lgp_source.specs.Source.{SourceToken, is_blank, tokens_from, token_at}

-- ---- std's two words for a first place

pub unwrap_position : (p : ℕ → Bool) (xs : List ℕ) → unwrap_or (position p xs) (length xs) ≡ position_or_len p xs
unwrap_position p xs =
    let n = position_or_len p xs in
    let bound : n ≤ length xs = prefix_len-le-length (λ x. not (p x)) xs in
    ⊎_elim
    (λ below. ap (λ t. unwrap_or (cond t (Some n) None) (length xs)) (lt-ltb n (length xs) below))
    (λ above. ap (λ t. unwrap_or (cond t (Some n) None) (length xs)) (le-ltb n (length xs) above) ∙ omega arith)
    (cases_lt n (length xs))

pub place_within : (p : ℕ → Bool) (xs : List ℕ) → position_or_len p xs ≤ length xs
place_within p xs = prefix_len-le-length (λ x. not (p x)) xs

place_some : (p : ℕ → Bool) (xs : List ℕ) (k : ℕ) → position p xs ≡ Some k → (position_or_len p xs ≡ k) × (k < length xs)
place_some p xs k e =
    grind (arith, cond_some)

place_none : (p : ℕ → Bool) (xs : List ℕ) → position p xs ≡ None → length xs ≤ position_or_len p xs
place_none p xs e =
    grind arith

-- ---- one byte

pub after_blank : (place b : ℕ) (fresh : Bool) (rest : List ℕ) → is_blank b ≡ true → tokens_from place fresh (b ∷ rest) ≡ tokens_from (place + 1) true rest
after_blank place b fresh rest e = cond-true _ _ _ e

pub after_visible : (place b : ℕ) (rest : List ℕ) → is_blank b ≡ false → tokens_from place false (b ∷ rest) ≡ tokens_from (place + 1) false rest
after_visible place b rest e = cond-false _ _ _ e

pub at_token : (place b : ℕ) (rest : List ℕ) → is_blank b ≡ false → tokens_from place true (b ∷ rest) ≡ token_at place (b ∷ rest) ∷ tokens_from (place + 1) false rest
at_token place b rest e = cond-false _ _ _ e

at_zero : (place : ℕ) (body : List ℕ) (n : ℕ) → n ≡ 0 → tokens_from place true body ≡ tokens_from (place + n) true (drop n body)
at_zero place body n e =
    grind arith

at_suc : (place b : ℕ) (rest : List ℕ) (m n : ℕ) → n ≡ suc m → tokens_from (place + 1 + m) true (drop m rest) ≡ tokens_from (place + n) true (drop n (b ∷ rest))
at_suc place b rest m n e =
    grind arith

gap_more : (b : ℕ) (rest : List ℕ) → is_blank b ≡ true → position_or_len is_visible (b ∷ rest) ≡ suc (position_or_len is_visible rest)
gap_more b rest e = ap (λ t. cond (not (not t)) (1 + position_or_len is_visible rest) 0) e ∙ omega arith

gap_none : (b : ℕ) (rest : List ℕ) → is_blank b ≡ false → position_or_len is_visible (b ∷ rest) ≡ 0
gap_none b rest e = ap (λ t. cond (not (not t)) (1 + position_or_len is_visible rest) 0) e

pub run_more : (b : ℕ) (rest : List ℕ) → is_blank b ≡ false → position_or_len is_blank (b ∷ rest) ≡ suc (position_or_len is_blank rest)
run_more b rest e = ap (λ t. cond (not t) (1 + position_or_len is_blank rest) 0) e ∙ omega arith

pub run_none : (b : ℕ) (rest : List ℕ) → is_blank b ≡ true → position_or_len is_blank (b ∷ rest) ≡ 0
run_none b rest e = ap (λ t. cond (not t) (1 + position_or_len is_blank rest) 0) e

-- ---- blanks, and a token

-- blanks before a token are passed over
past_gap : (place : ℕ) (body : List ℕ) → tokens_from place true body ≡ tokens_from (place + position_or_len is_visible body) true (drop (position_or_len is_visible body) body)
past_gap place [] = refl
past_gap place (b ∷ rest) = grind (arith, after_blank, at_suc, gap_more, at_zero, gap_none, past_gap (place + 1) rest)

-- and so is what is left of a token
past_run : (place : ℕ) (body : List ℕ) → tokens_from place false body ≡ tokens_from (place + position_or_len is_blank body) true (drop (position_or_len is_blank body) body)
past_run place [] = refl
past_run place (b ∷ rest) = ⊎_elim
    (λ blank. after_blank place b false rest blank ∙ sym (after_blank place b true rest blank) ∙ at_zero place (b ∷ rest) _ (run_none b rest blank))
    (λ visible. after_visible place b rest visible ∙ past_run (place + 1) rest ∙ at_suc place b rest _ _ (run_more b rest visible))
    (cases_Bool (is_blank b))

pub past_token : (place b : ℕ) (rest : List ℕ) → is_blank b ≡ false
    → tokens_from place true (b ∷ rest) ≡ token_at place (b ∷ rest) ∷ tokens_from (place + position_or_len is_blank (b ∷ rest)) true (drop (position_or_len is_blank (b ∷ rest)) (b ∷ rest))
past_token place b rest e =
    grind (arith, at_token, past_run, at_suc, run_more)

-- ---- what a step of the tokens gives

-- what a text has from a place on, as a slice reads it
abbrev pub rest_from : List ℕ → ℕ → List ℕ
rest_from body place = take (length body - place) (drop place body)

abbrev token_by : List ℕ → ℕ → ℕ → ℕ → SourceToken
token_by run start length_of_text size = record { text = take length_of_text run; first = start; past = start + size }

module _ (body : List ℕ) (place : ℕ) where
  -- no token is left
  pub no_token : position is_visible (rest_from body place) ≡ None → tokens_from place true (drop place body) ≡ []
  no_token found =
      let rest = drop place body in
      let e : position is_visible rest ≡ None = subst (λ xs. position is_visible xs ≡ None) (take_rest body place) found in
      let n = position_or_len is_visible rest in
      past_gap place rest ∙ ap (tokens_from (place + n) true) (drop_all n rest (place_none is_visible rest e))

  -- the token that comes, and those after it
  pub next_token : (gap size : ℕ) → place ≤ length body → position is_visible (rest_from body place) ≡ Some gap → size ≡ position_or_len is_blank (rest_from body (place + gap))
      → (place + gap + size ≤ length body)
      × (tokens_from place true (drop place body) ≡ record { text = take (place + gap + size - (place + gap)) (drop (place + gap) body); first = place + gap; past = place + gap + size } ∷ tokens_from (place + gap + size) true (drop (place + gap + size) body))
  next_token gap size within found_at size_at =
      let rest = drop place body in
      let start = place + gap in
      let some : position is_visible rest ≡ Some gap = subst (λ xs. position is_visible xs ≡ Some gap) (take_rest body place) found_at in
      let is : size ≡ position_or_len is_blank (drop start body) = subst (λ xs. size ≡ position_or_len is_blank xs) (take_rest body start) size_at in
      let run = drop start body in
      let found = place_some is_visible rest gap some in
      let at : drop gap rest ≡ run = drop-drop gap place body in
      let left : length rest ≡ length body - place = length-drop place body in
      let there : start < length body = omega (arith, found.1) in
      let here = get_or body start 0 in
      let split : run ≡ here ∷ drop (start + 1) body = drop_more body start 0 there in
      let passed : is_visible (get_or rest (position_or_len is_visible rest) 0) ≡ true = passes_at_first _ _ 0 (subst (λ n. n < length rest) (sym found.0) found.1) in
      let same : get_or rest (position_or_len is_visible rest) 0 ≡ here = ap (λ n. get_or rest n 0) found.0 ∙ get_or-drop place body gap 0 in
      let visible : is_blank here ≡ false = not-true (is_blank here) (subst (λ b. is_visible b ≡ true) same passed) in
      let run_len : length run ≡ length body - start = length-drop start body in
      let short : position_or_len is_blank run ≤ length run = prefix_len-le-length (λ x. not (is_blank x)) run in
      let size_is : start + size - start ≡ position_or_len is_blank run = omega (arith, is) in
      let after : drop size run ≡ drop (start + size) body = drop-drop size start body in
      let skipped : tokens_from place true rest ≡ tokens_from start true run =
      past_gap place rest ∙ ap (λ n. tokens_from (place + n) true (drop n rest)) found.0 ∙ ap (tokens_from start true) at in
      let taken : tokens_from start true run ≡ token_at start run ∷ tokens_from (start + position_or_len is_blank run) true (drop (position_or_len is_blank run) run) =
      subst (λ xs. tokens_from start true xs ≡ token_at start xs ∷ tokens_from (start + position_or_len is_blank xs) true (drop (position_or_len is_blank xs) xs)) (sym split) (past_token start here (drop (start + 1) body) visible) in
      let by_size : token_at start run ∷ tokens_from (start + position_or_len is_blank run) true (drop (position_or_len is_blank run) run) ≡ token_by run start (position_or_len is_blank run) size ∷ tokens_from (start + size) true (drop size run) =
      ap (λ n. token_by run start (position_or_len is_blank run) n ∷ tokens_from (start + n) true (drop n run)) (sym is) in
      (omega arith, skipped ∙ taken ∙ by_size ∙ ap (λ n. token_by run start n size ∷ tokens_from (start + size) true (drop size run)) (sym size_is) ∙ ap (λ t. token_by run start (start + size - start) size ∷ tokens_from (start + size) true t) after)

pub ruleset run_lengths = (unwrap_position, place_within)

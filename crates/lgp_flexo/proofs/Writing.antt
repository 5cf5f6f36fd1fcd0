-- What is written reads back.
use Rattle.std.proofs.Common.{◌≡◌, ℕ, zero, suc, ◌+◌, ◌/◌, ◌%◌, ◌<◌, ◌≤◌, Bool, true, false, not, ◌&&◌, ◌||◌, eqb, List, [], ◌∷◌, ◌++◌, length, get_or, take, Option, Some, None, Ok, refl, ap, sym, subst, ◌∙◌, ⊎_elim, arith, append_assoc, length-append}
use Rattle.std.proofs.lemmas.List.{append-nil, take_more}
use Rattle.std.proofs.lemmas.Bool.{cases_lt, eqb-true, false≢true, not-true}
use Rattle.std.specs.Option.{option_map}
use Rattle.lgp_flexo.proofs.Reading.{before-before}
use Rattle.lgp_flexo.specs.Code.{sign_at, code_at}
use Rattle.lgp_flexo.specs.TapeText.{before, code_of_group, codes_of_sign, codes_of_text, joined, single, sign_or_group, text_from, written_code}
use Rattle.lgp_word.specs.Decimal.{decimal_digit, decimal_number, decimal_of, is_decimal}

-- a test of each number below one
abbrev pub all_below : (ℕ → Bool) → ℕ → Bool
all_below test zero = true
all_below test (suc n) = test n && all_below test n

both : (a b : Bool) → (a && b) ≡ true → (a ≡ true) × (b ≡ true)
both true b h = (refl, h)
both false b h = absurd (false≢true h)

pub all_below-at : (test : ℕ → Bool) (n k : ℕ) → all_below test n ≡ true → k < n → test k ≡ true
all_below-at test zero k h within = absurd (omega arith)
all_below-at test (suc n) k h within =
    let parts = both (test n) (all_below _ n) h in
    ⊎_elim (λ below. all_below-at _ n k parts.1 below)
    (λ above. let e : n ≡ k = omega arith in subst (λ (i : ℕ). test i ≡ true) e parts.0)
    (cases_lt k n)

-- a sign is a piece of a text, and its code is this
abbrev pub is_piece : ℕ → Option ℕ → Bool
is_piece code (Some found) = eqb found code
is_piece code None = false

abbrev pub reads_back : ℕ → Option ℕ → Bool
reads_back code (Some sign) = not (eqb sign 91) && not ((eqb sign 10) || (eqb sign 13)) && is_piece code (code_at sign)
reads_back code None = true

-- seen code by code
pub all_read_back : all_below (λ code. reads_back code (sign_at code)) 64 ≡ true
unfolding sign_at code_at
all_read_back = refl

pub found-code : (code : ℕ) (found : Option ℕ) → is_piece code found ≡ true → found ≡ Some code
found-code code (Some found) h = ap Some (eqb-true found _ h)
found-code code None h = absurd (false≢true h)

-- the code of its group, seen group by group
abbrev pub group_reads_back : ℕ → Bool
group_reads_back code = is_piece code (code_of_group (decimal_digit (code / 10)) (decimal_digit (code % 10)))

pub all_groups_read_back : all_below group_reads_back 64 ≡ true
unfolding decimal_number is_decimal decimal_of
all_groups_read_back = refl

group-written : (code : ℕ) → code < 64 → code_of_group (decimal_digit (code / 10)) (decimal_digit (code % 10)) ≡ Some code
group-written code h =
    found-code _ _
    (all_below-at group_reads_back 64 _ all_groups_read_back h)

-- a sign that is not [ is a piece by itself
text_from-sign : (place sign : ℕ) (following : List ℕ) → eqb sign 91 ≡ false
    → text_from place (sign ∷ following) ≡ joined place (codes_of_sign sign) (text_from (place + 1) following)
unfolding text_from
text_from-sign place sign [] no_bracket = refl
text_from-sign place sign (a ∷ []) no_bracket = refl
text_from-sign place sign (a ∷ b ∷ []) no_bracket = refl
text_from-sign place sign (a ∷ b ∷ c ∷ rest) no_bracket = rw no_bracket refl

codes_of_sign-written : (code sign : ℕ) → ((eqb sign 10) || (eqb sign 13)) ≡ false → is_piece code (code_at sign) ≡ true → codes_of_sign sign ≡ Some (code ∷ [])
codes_of_sign-written code sign no_line one = rw no_line (ap (option_map single) (found-code code (code_at sign) one))

-- a text reads back: with more after it, it stands for these codes in front of what that stands for
abbrev pub ReadsBack : List ℕ → List ℕ → Type 0
ReadsBack text codes = (following : List ℕ) (place : ℕ) → text_from place (text ++ following) ≡ before codes (text_from (place + length text) following)

ReadsBack-piece : (code : ℕ) (sign : Option ℕ) → code < 64 → reads_back code sign ≡ true → ReadsBack (sign_or_group sign code) (code ∷ [])
unfolding text_from
ReadsBack-piece code (Some sign) small h = λ following place.
    let bracket = eqb sign 91 in
    let line = (eqb sign 10) || (eqb sign 13) in
    let parts = both (not bracket && not line) (is_piece code (code_at sign)) h in
    let tests = both (not bracket) (not line) parts.0 in
    text_from-sign _ _ _ (not-true bracket tests.0)
    ∙ ap (λ p. joined place p (text_from (place + 1) following)) (codes_of_sign-written _ _ (not-true line tests.1) parts.1)
ReadsBack-piece code None small h = λ following place.
    ap (λ p. joined place (option_map single p) (text_from (place + 4) following)) (group-written _ small)

-- each code reads back as it is written
pub ReadsBack-code : (code : ℕ) → code ≤ 63 → ReadsBack (written_code code) (code ∷ [])
ReadsBack-code code small =
    let below : code < 64 = omega arith in
    ReadsBack-piece code (sign_at code) below (all_below-at (λ c. reads_back c (sign_at c)) 64 _ all_read_back below)

-- two texts that read back, one after the other
pub ReadsBack-append : (text more codes later : List ℕ) → ReadsBack text codes → ReadsBack more later → ReadsBack (text ++ more) (codes ++ later)
ReadsBack-append text more codes later first second = λ following place.
    let e : (place + length text) + length more ≡ place + length (text ++ more) = omega (arith, length-append text more) in
    ap (text_from place) (append_assoc text more following)
    ∙ first (more ++ following) place
    ∙ ap (before codes) (second following (place + length text))
    ∙ before-before _ _ _
    ∙ ap (λ n. before (codes ++ later) (text_from n following)) e

-- with nothing after it
pub ReadsBack-whole : (text codes : List ℕ) → ReadsBack text codes → codes_of_text text ≡ Ok codes
unfolding text_from
ReadsBack-whole text codes h =
    ap codes_of_text (sym (append-nil text)) ∙ h [] 0 ∙ ap Ok (append-nil codes)

-- one code more is written
pub ReadsBack-more : (text longer codes : List ℕ) (i code : ℕ) → i < length codes → code ≡ get_or codes i code → code ≤ 63
    → longer ≡ text ++ written_code code → ReadsBack text (take i codes) → ReadsBack longer (take (i + 1) codes)
ReadsBack-more text longer codes i code within here small written so_far =
    let taken : take (i + 1) codes ≡ take i codes ++ code ∷ [] =
    take_more _ i _ within ∙ ap (λ c. take i codes ++ c ∷ []) (sym here) in
    subst (λ (t : List ℕ). ReadsBack t (take (i + 1) codes)) (sym written)
    (subst (λ (cs : List ℕ). ReadsBack (text ++ written_code code) cs) (sym taken)
    (ReadsBack-append text (written_code code) (take i codes) (code ∷ []) so_far (ReadsBack-code code small)))

-- The dump of some words, and how many of them are not zero: a word more.
use Rattle.std.proofs.Common.{◌≡◌, ℕ, ◌+◌, ◌<◌, ◌≤◌, Bool, true, false, cond, List, [], ◌∷◌, count_by, drop, length, get_or, refl, ap, ◌∙◌, arith}
use Rattle.std.proofs.lemmas.List.{drop_more}
use Rattle.std.proofs.lemmas.List.Sums.{sum_by-append}
use mir.Val.{bool_byte}
use Rattle.lgp_listing.specs.Dump.{is_used}

-- a truth value as a number
pub bool_byte-count : (b : Bool) → bool_byte b ≡ cond b 1 0
bool_byte-count true = refl
bool_byte-count false = refl

count_by-cons : (word : ℕ) (words : List ℕ) → count_by is_used (word ∷ words) ≡ (0 + cond (is_used word) 1 0) + count_by is_used words
count_by-cons word words = sum_by-append (λ w. cond (is_used w) 1 0) (word ∷ []) words

pub count_more : (words : List ℕ) (number word count counted whole : ℕ) → number < length words → word ≡ get_or words number 0
    → counted ≡ count + cond (is_used word) 1 0 → count + count_by is_used (drop number words) ≡ whole → counted + count_by is_used (drop (number + 1) words) ≡ whole
count_more words number word count counted whole within read added e =
    let first : count_by is_used (drop number words) ≡ (0 + cond (is_used word) 1 0) + count_by is_used (drop (number + 1) words) =
    rw read (ap (count_by is_used) (drop_more words number 0 within) ∙ count_by-cons _ (drop (number + 1) words)) in
    omega (arith, first, added, e)

pub count_within : (number word count counted : ℕ) → counted ≡ count + cond (is_used word) 1 0 → count ≤ number → counted ≤ number + 1
count_within number word count counted added small = by_test (is_used word) added where
  by_test : (b : Bool) → counted ≡ count + cond b 1 0 → counted ≤ number + 1
  by_test true sum = omega arith
  by_test false sum = omega arith

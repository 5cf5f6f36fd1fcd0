-- What is kept of a line, byte by byte.
use Rattle.std.proofs.Common.{◌≡◌, ℕ, ◌+◌, ◌-◌, ◌<◌, ◌≤◌, ◌&&◌, ◌||◌, Bool, true, false, not, cond, List, [], ◌∷◌, ◌++◌, length, take, get_or, refl, sym, ap, ⊎_elim, ◌∙◌, arith, nat_le, nat_lt, length-append, eqb}
use Rattle.std.proofs.lemmas.Bool.Decides.{nat_tests}
use Rattle.std.proofs.lemmas.List.{length-take, length-take-le, take-append-le, take_all, take_more}
use Rattle.std.proofs.Math.Seq.{get_or-append_seam, take-append_seam, take-length}
use Rattle.std.proofs.lemmas.Bool.{cases_lt, eqb-true}
use Rattle.std.proofs.lemmas.List.Folds.{list_all-append}
use Rattle.std.specs.List.{list_all}
use Rattle.std.specs.Str.Lines.{strip_carriage_return}
use Rattle.lgp_stream.specs.LineWords.{is_space}
use Rattle.lgp_stream.specs.KeptLine.{line_limit}
use Rattle.lgp_stream.specs.KeptLine.{Kept, kept_of, kept_push}
use Rattle.lgp_stream.specs.OpenLineInside.{Open, ends_with_return, is_unbegun, open_of, open_push, whole}

and-true : (b : Bool) → (b && true) ≡ b
and-true true = refl
and-true false = refl

or-true : (b : Bool) → (b || true) ≡ true
or-true true = refl
or-true false = refl

-- the front of bytes with one more
take-push : (limit : ℕ) (bytes : List ℕ) (byte : ℕ) → take limit (bytes ++ byte ∷ []) ≡ cond (nat_lt (length (take limit bytes)) limit) (take limit bytes ++ byte ∷ []) (take limit bytes)
take-push limit bytes byte = ⊎_elim
    (λ (room : length bytes < limit).
    let fits : length bytes ≤ limit = omega arith in
    let more : length (bytes ++ byte ∷ []) ≤ limit = omega (arith, length-append bytes (byte ∷ [])) in
    let all = take_all limit bytes fits in
    let all_more = take_all limit (bytes ++ byte ∷ []) more in
    let test : nat_lt (length bytes) limit ≡ true = grind (arith, nat_tests) in
    rw (all, all_more, test) refl)
    (λ (full : limit ≤ length bytes).
    let long = length-take-le limit bytes full in
    let test : nat_lt limit limit ≡ false = grind (arith, nat_tests) in
    rw (take-append-le limit bytes (byte ∷ []) full, long, test) refl)
    (cases_lt (length bytes) limit)

longer-push : (limit : ℕ) (bytes : List ℕ) (byte : ℕ) → nat_lt limit (length (bytes ++ byte ∷ [])) ≡ (nat_lt limit (length bytes) || nat_le limit (length (take limit bytes)))
longer-push limit bytes byte = ⊎_elim
    (λ (room : length bytes < limit).
    let fits : length bytes ≤ limit = omega arith in
    let all = take_all limit bytes fits in
    let now : nat_lt limit (length (bytes ++ byte ∷ [])) ≡ false = simp length-append (grind (arith, nat_tests)) in
    let before : nat_lt limit (length bytes) ≡ false = grind (arith, nat_tests) in
    let full : nat_le limit (length bytes) ≡ false = grind (arith, nat_tests) in
    rw (now, all, before, full) refl)
    (λ (full : limit ≤ length bytes).
    let long = length-take-le limit bytes full in
    let now : nat_lt limit (length (bytes ++ byte ∷ [])) ≡ true = simp length-append (grind (arith, nat_tests)) in
    let reached : nat_le limit limit ≡ true = grind (arith, nat_tests) in
    rw (now, long, reached) (sym (or-true _)))
    (cases_lt (length bytes) limit)

blank-push : (bytes : List ℕ) (byte : ℕ) → list_all is_space (bytes ++ byte ∷ []) ≡ (list_all is_space bytes && is_space byte)
blank-push bytes byte = rw (list_all-append _ _ (byte ∷ []), and-true _) refl

pub kept_push-kept_of : (bytes : List ℕ) (byte : ℕ) → kept_push (kept_of bytes) byte ≡ kept_of (bytes ++ byte ∷ [])
unfolding kept_of
kept_push-kept_of bytes byte = rw (take-push _ _ _, longer-push _ _ _, blank-push _ _) refl

-- the last byte of a line
last-push : (line : List ℕ) (byte : ℕ) → get_or (line ++ byte ∷ []) (length (line ++ byte ∷ []) - 1) 0 ≡ byte
last-push line byte =
    let place : length (line ++ byte ∷ []) - 1 ≡ length line = omega (arith, length-append line (byte ∷ [])) in
    rw place (get_or-append_seam line byte [] 0)

front-push : (line : List ℕ) (byte : ℕ) → take (length (line ++ byte ∷ []) - 1) (line ++ byte ∷ []) ≡ line
front-push line byte =
    let place : length (line ++ byte ∷ []) - 1 ≡ length line = omega (arith, length-append line (byte ∷ [])) in
    rw place (take-append_seam line (byte ∷ []))

-- a line that ends with a carriage return is its front and that
parted : (line : List ℕ) → ends_with_return line ≡ true → take (length line - 1) line ++ 13 ∷ [] ≡ line
parted [] ends = cc
parted (first ∷ more) ends =
    let line : List ℕ = first ∷ more in
    let last : get_or line (length line - 1) 0 ≡ 13 = eqb-true _ _ ends in
    let within : length line - 1 < length line = omega arith in
    let back : (length line - 1) + 1 ≡ length line = omega arith in
    rw (← last) (sym (take_more _ _ 0 within) ∙ (ap (λ n. take n line) back ∙ take-length line))

-- the bytes of an open line are all kept, with the one that is held back
pub whole-open_of : (line : List ℕ) → whole (open_of line) ≡ kept_of line
unfolding open_of
whole-open_of line = by_return (ends_with_return line) refl where
  by_return : (ends : Bool) → ends_with_return line ≡ ends → cond ends (kept_push (kept_of (cond ends (take (length line - 1) line) line)) 13) (kept_of (cond ends (take (length line - 1) line) line)) ≡ kept_of line
  by_return true ends = kept_push-kept_of _ 13 ∙ ap kept_of (parted _ ends)
  by_return false ends = refl

-- what is kept of a line that a line feed ends
pub kept-open_of : (line : List ℕ) → (open_of line).kept ≡ kept_of (strip_carriage_return line)
unfolding open_of
kept-open_of line = refl

open_of-push : (line : List ℕ) (byte : ℕ) → record { kept = cond (eqb byte 13) (kept_of line) (kept_of (line ++ byte ∷ [])); held = eqb byte 13 } ≡ open_of (line ++ byte ∷ [])
unfolding open_of
open_of-push line byte = by_return (eqb byte 13) refl where
  by_return : (ret : Bool) → eqb byte 13 ≡ ret → record { kept = cond (eqb byte 13) (kept_of line) (kept_of (line ++ byte ∷ [])); held = eqb byte 13 } ≡ open_of (line ++ byte ∷ [])
  by_return true ret = rw (last-push _ _, ret, front-push _ _) refl
  by_return false ret = rw (last-push _ _, ret) refl

open_push-whole : (open_line : Open) (now more : Kept) (byte : ℕ) → whole open_line ≡ now → kept_push now byte ≡ more → open_push open_line byte ≡ record { kept = cond (eqb byte 13) now more; held = eqb byte 13 }
open_push-whole open_line now more byte is_now is_more = grind arith

pub open_push-open_of : (line : List ℕ) (byte : ℕ) → open_push (open_of line) byte ≡ open_of (line ++ byte ∷ [])
open_push-open_of line byte =
    grind (arith, open_push-whole, whole-open_of, kept_push-kept_of, open_of-push)

-- an open line is unbegun where it has no byte
unbegun-take : (limit : ℕ) (first : ℕ) (more : List ℕ) (ends : Bool) → 0 < limit → (not ends && eqb (length (take limit (cond ends (take (length (first ∷ more) - 1) (first ∷ more)) (first ∷ more)))) 0) ≡ false
unbegun-take limit first more true some = refl
unbegun-take limit first more false some =
    let count = length-take limit (first ∷ more) in
    grind (arith, nat_tests)

pub is_unbegun-open_of : (line : List ℕ) → is_unbegun (open_of line) ≡ eqb (length line) 0
unfolding open_of kept_of
is_unbegun-open_of [] = refl
is_unbegun-open_of (first ∷ more) =
    let any : eqb (length (first ∷ more)) 0 ≡ false = grind (arith, nat_tests) in
    rw any (unbegun-take line_limit first more (ends_with_return (first ∷ more)) (omega arith))

-- What the kept front of a line tells of the line.
use Rattle.std.proofs.Common.{◌≡◌, ℕ, ◌<◌, ◌≤◌, Bool, true, false, List, length, take, get_or, refl, sym, ap, ◌∙◌, nat_lt, arith}
use Rattle.std.specs.Str.{bytes_eq}
use Rattle.std.proofs.lemmas.Slice.Eq.{bytes_eq-Decides}
use Rattle.std.proofs.lemmas.Bool.{ltb-false, ltb-true}
use Rattle.std.proofs.lemmas.List.{get_or-take, take_all}
use Rattle.lgp_stream.specs.KeptLine.{Kept, kept_of, line_limit}

pub first-take : (limit : ℕ) (line : List ℕ) → 0 < limit → get_or (take limit line) 0 0 ≡ get_or line 0 0
first-take limit line some = get_or-take limit line 0 0 some

pub front_kept : (limit : ℕ) (line : List ℕ) → nat_lt limit (length line) ≡ false → take limit line ≡ line
front_kept limit line short = let fits : length line ≤ limit = ltb-false limit (length line) short in take_all limit line fits

-- whether a line is longer, and that it is kept whole where it is not
longer_of : (line : List ℕ) → (kept_of line).longer ≡ nat_lt line_limit (length line)
unfolding kept_of
longer_of line = refl

whole_front : (line : List ℕ) → (kept_of line).longer ≡ false → (kept_of line).front ≡ line
unfolding kept_of
whole_front line short = front_kept _ _ short

pub longer_kept : (kept : Kept) (line : List ℕ) → kept ≡ kept_of line → nat_lt line_limit (length line) ≡ kept.longer
longer_kept kept line e = sym (longer_of _) ∙ sym (ap (λ (k : Kept). k.longer) e)

pub front_whole : (kept : Kept) (line : List ℕ) → kept ≡ kept_of line → kept.longer ≡ false → kept.front ≡ line
front_whole kept line e short = grind (arith, whole_front)

-- a line that is longer than a word is another
longer_differs : (line word : List ℕ) → length word < length line → bytes_eq line word ≡ false
longer_differs line word longer = by_result _ refl where
  by_result : (b : Bool) → bytes_eq line word ≡ b → bytes_eq line word ≡ false
  by_result true e = grind (arith, bytes_eq-Decides)
  by_result false e = e

pub longer_is_no_word : (kept : Kept) (line word : List ℕ) → kept ≡ kept_of line → kept.longer ≡ true → length word ≤ line_limit → bytes_eq line word ≡ false
longer_is_no_word kept line word e longer short =
    let above : line_limit < length line = ltb-true line_limit (length line) (longer_kept _ _ e ∙ longer) in
    longer_differs line word (omega arith)

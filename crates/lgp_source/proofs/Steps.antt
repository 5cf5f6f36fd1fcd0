-- A step of an iterator that gives the first item of a list.
use Rattle.std.proofs.Common.{suc, refl, ◌≡◌, ◌<◌, List, ◌∷◌, length, sym, subst, arith, Some}
use Rattle.std.proofs.Common.{ℕ, ◌+◌, [], map, ap}
use Rattle.lgp_source.specs.Source.{SourceLine, numbered_lines, without_last, text_of, line_of}
use Rattle.std.specs.Iterator.{MakesProgress, item_count}

pub goes_on : {A B : Type 0} (view : A → B) (can : List B → Type 0) → ((l : List B) → can l) → (s t : List B) (x : A) → s ≡ view x ∷ t → MakesProgress can (item_count (λ rest. rest)) s (Some x) t
goes_on view can always s t x e = record {
  on = λ _. (always t, tt, subst (λ l. length t < length l) (sym e) (omega arith));
  keeps = always t;
  rests = λ _. tt;
}

-- ---- the lines that the cut pieces give

pub numbered_none : (number : ℕ) (cut : List (List ℕ)) → cut ≡ [] → numbered_lines number (map (without_last 10) cut) ≡ []
unfolding numbered_lines
numbered_none number cut e = ap (λ c. numbered_lines number (map (without_last 10) c)) e

pub numbered_step : (number : ℕ) (cut after : List (List ℕ)) (piece : List ℕ) (line : SourceLine) → cut ≡ piece ∷ after → line ≡ line_of number (text_of (without_last 10 piece))
    → numbered_lines number (map (without_last 10) cut) ≡ line ∷ numbered_lines (number + 1) (map (without_last 10) after)
unfolding numbered_lines
numbered_step number cut after piece line e is =
    grind arith

pub length-numbered_lines : (number : ℕ) (cut : List (List ℕ)) → length (numbered_lines number (map (without_last 10) cut)) ≡ length cut
unfolding numbered_lines
length-numbered_lines number [] = refl
length-numbered_lines number (piece ∷ cut) = ap suc (length-numbered_lines (number + 1) cut)

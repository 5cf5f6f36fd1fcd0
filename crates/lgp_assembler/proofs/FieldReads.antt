-- An operand of a line.
use Rattle.std.proofs.Common.{◌≡◌, ◌<◌, ℕ, zero, suc, List, [], ◌∷◌, length, map, get_or, refl, ap, sym, ◌∙◌, Option, None}
use Rattle.std.specs.Option.{option_map}
use Rattle.std.proofs.lemmas.List.{get_or_default}

get_or_map : {X Y : Type 0} (f : X → Y) (xs : List X) (i : ℕ) (d : X) → get_or (map f xs) i (f d) ≡ f (get_or xs i d)
get_or_map f [] i d = refl
get_or_map f (x ∷ xs) zero d = refl
get_or_map f (x ∷ xs) (suc i) d = get_or_map f xs i d

pub operand_read : {X Y : Type 0} (f : X → Y) (xs : List (Option X)) (i : ℕ) (x : Option X) → x ≡ get_or xs i x → i < length xs → get_or (map (option_map f) xs) i None ≡ option_map f x
operand_read f xs i x is within = get_or_map _ xs i _ ∙ ap (option_map f) (get_or_default xs i None x within ∙ sym is)

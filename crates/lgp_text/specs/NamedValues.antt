-- Part of the public promise: names, each with what it stands for.
use Rattle.std.specs.Prelude.{ℕ, Option, List, map}
use Rattle.std.specs.Borrow.{Bor}
use Rattle.std.specs.Map.{lookup}
use Rattle.std.specs.Str.{bytes_eq}

-- what a name stands for; None where the list does not have it
abbrev pub named : {T : Type 0} → List (List ℕ × T) → List ℕ → Option T
named names name = lookup (bytes_eq name) names

abbrev pub pairs_of : {T : Type 0} → List (Bor (List ℕ) × T) → List (List ℕ × T)
pairs_of names = map (λ known. (known.0.now, known.1)) names

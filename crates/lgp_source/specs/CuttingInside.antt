-- Serves proofs only: a byte that a token may have.
use Rattle.std.specs.Prelude.{ℕ, Bool, not}
use Rattle.lgp_source.specs.Source.{is_blank}

abbrev pub is_visible : ℕ → Bool
is_visible b = not (is_blank b)

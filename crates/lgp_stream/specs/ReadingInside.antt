-- Serves proofs only: what is taken of a text that is read, byte by byte and line by line.
use Rattle.std.specs.Prelude.{◌≡◌, ℕ, Bool, true, false, Option, Some, None, List, [], ◌∷◌, ◌++◌}
use Rattle.std.specs.Io.KnownBytes.{Consumes, IsAtEnd}
use Rattle.lgp_stream.specs.OpenLineInside.{Open, open_of}
use Rattle.lgp_stream.specs.Transcript.{IsLine}

-- the next byte was taken of what was left, or nothing is left
abbrev pub HasByte : Option (List ℕ) → Option (List ℕ) → Option ℕ → Type 0
HasByte before after (Some byte) = Consumes before after (byte ∷ [])
HasByte before after None = Consumes before after [] × IsAtEnd after

-- a line feed, or nothing
abbrev pub feed_of : Bool → List ℕ
feed_of true = 10 ∷ []
feed_of false = []

-- bytes without a line feed were taken of what was left, and a line has them; a line feed after
-- them was taken too, or not
pub record HasTaken (before after : Option (List ℕ)) (line : Open) (feed : Bool) : Type 0 where
  pub taken : List ℕ
  pub is_line : IsLine taken
  pub line_at : line ≡ open_of taken
  pub consumed : Consumes before after (taken ++ feed_of feed)

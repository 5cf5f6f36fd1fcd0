-- Part of the public promise: the lines of a text that is read, one after another.
use Rattle.std.specs.Prelude.{◌≡◌, ℕ, IfSome, Option, Some, None, List, [], ◌∷◌, ◌++◌, option_map}
use Rattle.std.specs.Io.KnownBytes.{Consumes}
use Rattle.std.specs.Str.Lines.{lines}
use Rattle.lgp_stream.specs.KeptLine.{Kept, kept_of}
use Rattle.lgp_stream.specs.Transcript.{IsLine}

-- what is left of a text: the bytes that were read and are in no line yet, and those that its
-- reader has left, where these are known
abbrev pub left_of : List ℕ → Option (List ℕ) → Option (List ℕ)
left_of unread remaining = option_map (λ more. unread ++ more) remaining

-- the bytes that were read and are in no line yet, and the line that was read last
pub record Reading : Type 0 where
  pub unread : List ℕ
  pub line : Kept

-- the next line is the first of what is left, and the other lines are left after it; or none is
-- left
abbrev pub HasLine : Option (List ℕ) → Option (List ℕ) → Option Kept → Type 0
HasLine before after (Some kept) =
    (line : List ℕ) × (kept ≡ kept_of line) × IfSome before (λ text.
    (rest : List ℕ) × (lines text ≡ line ∷ lines rest) × (after ≡ Some rest))
HasLine before after None =
    IfSome before (λ text. (lines text ≡ []) × (after ≡ Some []))

-- only bytes of a line that had begun were taken of what was left: a piece without a line feed
abbrev pub IsBrokenLine : Option (List ℕ) → Option (List ℕ) → Type 0
IsBrokenLine before after = (piece : List ℕ) × IsLine piece × Consumes before after piece

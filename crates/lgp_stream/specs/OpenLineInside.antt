-- Serves proofs only: a line of which more bytes may come.
use Rattle.std.specs.Prelude.{ℕ, ◌-◌, ◌==◌, ◌&&◌, Bool, not, if◌then◌else◌, List, length}
use Rattle.std.specs.Prelude.{slice_index}
use Rattle.std.specs.Str.Lines.{strip_carriage_return}
use Rattle.lgp_stream.specs.KeptLine.{Kept, kept_of, kept_push}

-- what is kept of it; its last byte is held back where it is a carriage return
pub record Open : Type 0 where
  pub kept : Kept
  pub held : Bool

abbrev pub ends_with_return : List ℕ → Bool
ends_with_return line = slice_index line (length line - 1) == 13

unfoldable pub open_of : List ℕ → Open
open_of line = record { kept = kept_of (strip_carriage_return line); held = ends_with_return line }

-- what is kept of an open line with the byte that is held back
abbrev pub whole : Open → Kept
whole line = if line.held then kept_push line.kept 13 else line.kept

-- an open line with a byte more
abbrev pub open_push : Open → ℕ → Open
open_push line byte = record {
  kept = if byte == 13 then whole line else kept_push (whole line) byte;
  held = byte == 13;
}

-- no byte of the line was taken yet
abbrev pub is_unbegun : Open → Bool
is_unbegun line = not line.held && (length line.kept.front == 0)

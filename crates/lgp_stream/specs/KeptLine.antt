-- Part of the public promise: what is kept of a line that is read byte by byte, enough to answer
-- it.
use Rattle.std.specs.Prelude.{◌≡◌, ℕ, ◌&&◌, ◌||◌, Bool, if◌then◌else◌, nat_le, nat_lt, List, []}
use Rattle.std.specs.Prelude.{◌∷◌}
use Rattle.std.specs.Prelude.{◌++◌, ◌-◌, drop, length, take}
use Rattle.std.specs.List.{list_all}
use Rattle.std.specs.Str.Lines.{lines}
use Rattle.lgp_stream.specs.LineWords.{is_space}

-- how many bytes of a line are kept
abbrev pub line_limit : ℕ
line_limit = 4096

-- of a line's bytes: their front, whether there are more, whether all are spaces
pub record Kept : Type 0 where
  pub front : List ℕ
  pub longer : Bool
  pub blank : Bool

unfoldable pub kept_of : List ℕ → Kept
kept_of bytes = record {
  front = take line_limit bytes;
  longer = nat_lt line_limit (length bytes);
  blank = list_all is_space bytes;
}

-- what is kept with a byte more
abbrev pub kept_push : Kept → ℕ → Kept
kept_push kept byte = record {
  front = if nat_lt (length kept.front) line_limit then kept.front ++ byte ∷ [] else kept.front;
  longer = kept.longer || nat_le line_limit (length kept.front);
  blank = kept.blank && is_space byte;
}

-- this is kept of the first line of a text, which the rest follows
pub record IsFirstLine (text : List ℕ) (kept : Kept) (rest : List ℕ) : Type 0 where
  pub first : List ℕ
  pub is_kept : kept ≡ kept_of first
  pub lines_are : lines text ≡ first ∷ lines rest
  pub rest_is : rest ≡ drop (length text - length rest) text

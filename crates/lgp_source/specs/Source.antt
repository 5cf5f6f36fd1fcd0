-- Part of the public promise: lines and tokens of the source language, which is this project's own
-- choice.
use Rattle.std.specs.Prelude.{ℕ, ◌+◌, Bool, true, false, not, ◌==◌, ◌&&◌, ◌||◌, nat_le, nat_lt}
use Rattle.std.specs.Prelude.{if◌then◌else◌, List, [], ◌∷◌, length, Option, Some, None, slice_get}
use Rattle.std.specs.Prelude.{position, is_some}
use Rattle.std.specs.List.{position_or_len, before_first}

-- a token: its bytes, and its span in the line's text
pub record SourceToken : Type 0 where
  pub text : List ℕ
  pub first : ℕ
  pub past : ℕ

-- a line: its number, counted from 1, its text, the place of its first byte that no line may have,
-- and its tokens by their use
pub record SourceLine : Type 0 where
  pub number : ℕ
  pub text : List ℕ
  pub label : Option SourceToken
  pub operation : Option SourceToken
  pub operands : List (Option SourceToken)
  pub bad_byte : Option ℕ
  pub extra : Bool

-- ---- lines

-- `b` put before the first of some pieces
abbrev pub before_pieces : ℕ → List (List ℕ) → List (List ℕ)
before_pieces b [] = (b ∷ []) ∷ []
before_pieces b (piece ∷ pieces) = (b ∷ piece) ∷ pieces

-- what is between line feeds: nothing comes after a last line feed, and an empty source has no
-- piece
abbrev pub pieces : List ℕ → List (List ℕ)
pieces [] = []
pieces (b ∷ rest) = if b == 10 then [] ∷ pieces rest else before_pieces b (pieces rest)

-- some bytes without one `mark` at their end
abbrev pub without_last : ℕ → List ℕ → List ℕ
without_last mark [] = []
without_last mark (b ∷ []) = if b == mark then [] else b ∷ []
without_last mark (b ∷ c ∷ rest) = b ∷ without_last mark (c ∷ rest)

-- a line's text: its piece without one carriage return at its end
abbrev pub text_of : List ℕ → List ℕ
text_of piece = without_last 13 piece

-- ---- tokens

-- a blank is a space or a tab
abbrev pub is_blank : ℕ → Bool
is_blank b = b == 32 || b == 9

-- a byte of a line is a tab or one of those from the space to `~`; any other is bad
abbrev pub is_bad : ℕ → Bool
is_bad b = not (b == 9 || (nat_le 32 b && nat_le b 126))

-- a text up to its comment, which a `;` at the line's start or after a blank begins; `fresh` says
-- that one may begin here
abbrev pub body_from : Bool → List ℕ → List ℕ
body_from fresh [] = []
body_from fresh (b ∷ rest) = if fresh && b == 59 then [] else b ∷ body_from (is_blank b) rest

abbrev pub before_comment : List ℕ → List ℕ
before_comment text = body_from true text

-- the token that begins at a place, where `body` is the text from there on: it goes on to the
-- next blank
abbrev pub token_at : ℕ → List ℕ → SourceToken
token_at place body = record {
  text = before_first is_blank body;
  first = place;
  past = place + position_or_len is_blank body;
}

-- the tokens from a place on: one begins at each byte that is no blank and has the line's start or
-- a blank before it, which `fresh` says
abbrev pub tokens_from : ℕ → Bool → List ℕ → List SourceToken
tokens_from place fresh [] = []
tokens_from place fresh (b ∷ rest) =
    if is_blank b then tokens_from (place + 1) true rest
    else (if fresh then token_at place (b ∷ rest) ∷ tokens_from (place + 1) false rest
    else tokens_from (place + 1) false rest)

abbrev pub tokens_of : List ℕ → List SourceToken
tokens_of text = tokens_from 0 true (before_comment text)

-- ---- a line from its tokens

-- a token that begins in the first column is the label
abbrev pub label_of : List SourceToken → Option SourceToken
label_of [] = None
label_of (token ∷ tokens) = if token.first == 0 then Some token else None

-- the tokens after the label: the operation and its operands
abbrev pub statement_of : List SourceToken → List SourceToken
statement_of [] = []
statement_of (token ∷ tokens) = if token.first == 0 then tokens else token ∷ tokens

abbrev pub line_with : ℕ → List ℕ → Option ℕ → List SourceToken → SourceLine
line_with number text bad tokens = record {
  number = number;
  text = text;
  label = label_of tokens;
  operation = slice_get (statement_of tokens) 0;
  operands = slice_get (statement_of tokens) 1 ∷ slice_get (statement_of tokens) 2 ∷ [];
  bad_byte = bad;
  extra = nat_lt 3 (length (statement_of tokens));
}

-- the line of a text; one with a bad byte has no tokens
abbrev pub line_of : ℕ → List ℕ → SourceLine
line_of number text =
    let bad = position is_bad text in
    line_with number text bad (if is_some bad then [] else tokens_of text)

-- lines from a number on
unfoldable pub numbered_lines : ℕ → List (List ℕ) → List SourceLine
numbered_lines number [] = []
numbered_lines number (piece ∷ pieces) =
    line_of number (text_of piece) ∷ numbered_lines (number + 1) pieces

-- the lines of a source
unfoldable pub lines_of : List ℕ → List SourceLine
lines_of source = numbered_lines 1 (pieces source)

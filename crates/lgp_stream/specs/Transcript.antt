-- Part of the public promise: a language of lines that stand for lines of another one, and the
-- transcript, a text of that other language which says what was done.
use Rattle.std.specs.Prelude.{◌≡◌, ℕ, ◌==◌, ◌-◌, false, if◌then◌else◌, List, [], ◌∷◌, ◌++◌}
use Rattle.std.specs.Prelude.{length, map, codes, slice_index}
use Rattle.std.specs.List.{AllByRecursion, concat}
use Rattle.std.specs.Borrow.{Bor}
use Rattle.std.specs.Str.{byte}
use Rattle.std.specs.Str.Lines.{lines}
use Rattle.lgp_stream.specs.KeptLine.{Kept}
use Rattle.lgp_stream.specs.Language.{Answer, Language, is_line_feed, replies_to, state_after}

-- the state of something, and the text whose lines have brought it into that state
pub record Recorded (S : Type 0) : Type 0 where
  pub state : S
  pub transcript : List ℕ

-- what a line stands for: lines of the other language, one after another; or a new beginning, and
-- such lines after it
pub data Meaning : Type 0 where
  Lines : List (List ℕ) → Meaning
  Anew : List (List ℕ) → Meaning

-- a line as a text has it: after a carriage return there is another one, since a text's line loses
-- one
unfoldable pub ended : List ℕ → List ℕ
ended line =
    line ++ (if slice_index line (length line - 1) == 13 then codes "\r\n" else codes "\n")

-- the bytes of borrowed texts
abbrev pub bytes_of : List (Bor (List ℕ)) → List (List ℕ)
bytes_of texts = map (λ text. text.now) texts

-- a line that is kept as another one is: its front, and one byte more where it is longer
unfoldable pub stand_in : Kept → List ℕ
stand_in kept =
    if kept.longer
    then kept.front ++ (if kept.blank then byte " " else byte ".") ∷ [] else kept.front

-- no byte of a line is a line feed
abbrev pub IsLine : List ℕ → Type 0
IsLine line = AllByRecursion (λ character. is_line_feed character ≡ false) line

abbrev pub AreLines : Meaning → Type 0
AreLines (Lines lines) = AllByRecursion IsLine lines
AreLines (Anew lines) = AllByRecursion IsLine lines

module _ {S : Type 0} where
  -- before the first line
  abbrev pub untouched : S → Recorded S
  untouched state = record { state = state; transcript = [] }

  -- with a line more in the transcript, and with another state
  abbrev pub with_line : Recorded S → List ℕ → Recorded S
  with_line recorded line = record recorded { transcript = recorded.transcript ++ ended line }

  abbrev pub with_state : Recorded S → S → Recorded S
  with_state recorded state = record recorded { state = state }

  -- lines stand for lines
  abbrev pub StandForLines : (Recorded S → List ℕ → Meaning) → Type 0
  StandForLines meaning =
      (recorded : Recorded S) (line : List ℕ) → IsLine line → AreLines (meaning recorded line)

-- the other language
module _ {S : Type 0} (language : Language S) where
  -- after lines of it, and the replies to them
  unfoldable pub after_lines : Recorded S → List (List ℕ) → Recorded S
  after_lines recorded lines = record {
    state = state_after language recorded.state lines;
    transcript = recorded.transcript ++ concat (map ended lines);
  }

  unfoldable pub replies_text : Recorded S → List (List ℕ) → List ℕ
  replies_text recorded lines = concat (replies_to language recorded.state lines)

  abbrev pub lines_answered : Recorded S → List (List ℕ) → Answer (Recorded S)
  lines_answered recorded lines =
      record { reply = replies_text recorded lines; after = after_lines recorded lines }

  -- after a line of this meaning
  abbrev pub after_meaning : S → Recorded S → Meaning → Recorded S
  after_meaning opening recorded (Lines lines) = after_lines recorded lines
  after_meaning opening recorded (Anew lines) = after_lines (untouched opening) lines

  -- a language of lines with a meaning each: its lines do to a transcript and to the state
  -- what they mean
  abbrev pub HasMeanings : S → (Recorded S → List ℕ → Meaning) → Language (Recorded S) → Type 0
  HasMeanings opening meaning typed =
      (recorded : Recorded S) (line : List ℕ)
      → typed.after recorded line ≡ after_meaning opening recorded (meaning recorded line)

  -- wherever a text leads, the other language puts it there for the transcript
  abbrev pub IsReportedByTranscript : S → Recorded S → Type 0
  IsReportedByTranscript opening recorded =
      recorded.state ≡ state_after language opening (lines recorded.transcript)

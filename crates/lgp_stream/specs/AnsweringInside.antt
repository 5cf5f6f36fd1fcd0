-- Serves proofs only: how far a text was answered while its lines come in one after another.
use Rattle.std.specs.Prelude.{◌≡◌, ℕ, IfSome, Option, List, ◌++◌, length, min}
use Rattle.std.specs.List.{concat}
use Rattle.std.specs.Io.KnownBytes.{Appends}
use Rattle.std.specs.Str.Lines.{lines}
use Rattle.lgp_stream.specs.Language.{Language, count_limit, question_count, replies_to}
use Rattle.lgp_stream.specs.Language.{state_after}
use Rattle.lgp_stream.specs.OpenLineInside.{Open, open_of}
use Rattle.lgp_stream.specs.Transcript.{IsLine}
use Rattle.lgp_stream.specs.declared.tally.Tally.{Tally}

-- these replies were written, and counted
pub record HasWritten (w₀ w : Option (List ℕ)) (replies : List (List ℕ))
    (tally : Tally) : Type 0 where
  pub sent : Appends w₀ w (concat replies)
  pub questions : tally.questions ≡ question_count replies
  pub bytes : tally.bytes ≡ min (length (concat replies)) count_limit

module _ {S : Type 0} (language : Language S) (s : S) where
  -- these lines were answered
  pub record HasAnswered (w₀ w : Option (List ℕ)) (lines : List (List ℕ)) (state : S)
      (tally : Tally) : Type 0 where
    pub state_at : state ≡ state_after language s lines
    pub written : HasWritten w₀ w (replies_to language s lines) tally

  -- the complete lines of a text were answered, and a line is the piece after them
  pub record HasAnsweredComplete (before w₀ w : Option (List ℕ)) (state : S) (line : Open)
      (tally : Tally) : Type 0 where
    pub complete : List (List ℕ)
    pub piece : List ℕ
    pub lines_are : IfSome before (λ text. lines text ≡ complete ++ lines piece)
    pub is_line : IsLine piece
    pub line_at : line ≡ open_of piece
    pub answered : HasAnswered w₀ w complete state tally

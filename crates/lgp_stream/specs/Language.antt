-- Part of the public promise: what a language of lines is, the replies to a text in it, and what
-- is written of them where the text was not answered to its end.
use Rattle.std.specs.Prelude.{◌≡◌, ℕ, ◌+◌, ◌-◌, ◌^◌, ◌≤◌, ◌==◌, Bool, true, min, List, [], ◌∷◌}
use Rattle.std.specs.Prelude.{◌++◌, fold, length, take, count_by, slice_index, Option, Some, ⊤}
use Rattle.std.specs.List.{concat}
use Rattle.std.specs.Io.KnownBytes.{Appends, Consumes}
use Rattle.std.specs.Str.{byte}
use Rattle.std.specs.Str.Lines.{lines}
use Rattle.lgp_stream.specs.declared.stream.StreamFault.{StreamFault}
use Rattle.lgp_stream.specs.declared.stream.StreamFault.TheVariants.{Read, Write, Memory}

-- the reply to a line, empty where it has none, and the state after it; and the reply to the text's
-- end
pub record Language (S : Type 0) : Type 0 where
  pub reply : S → List ℕ → List ℕ
  pub after : S → List ℕ → S
  pub closing : S → List ℕ

-- the replies to lines, one after another, and the state after them
abbrev pub replies_to : {S : Type 0} → Language S → S → List (List ℕ) → List (List ℕ)
replies_to language s [] = []
replies_to language s (line ∷ more) =
    language.reply s line ∷ replies_to language (language.after s line) more

abbrev pub state_after : {S : Type 0} → Language S → S → List (List ℕ) → S
state_after language s lines = fold language.after s lines

-- the replies to a text: to its lines, and to its end
unfoldable pub text_replies : {S : Type 0} → Language S → S → List ℕ → List (List ℕ)
text_replies language s text =
    replies_to language s (lines text)
    ++ language.closing (state_after language s (lines text)) ∷ []

-- a reply, empty where there is none, and the state after it
pub record Answer (S : Type 0) : Type 0 where
  pub reply : List ℕ
  pub after : S

-- an answer was given: its reply is in a text after what was there before, and its state is there
pub record IsAnswered {S : Type 0} (before text : List ℕ) (state : S)
    (answer : Answer S) : Type 0 where
  pub reply : text ≡ before ++ answer.reply
  pub after : state ≡ answer.after

-- how far a number of 64 bits counts, and how many replies begin with a question mark, as far as
-- that
abbrev pub count_limit : ℕ
count_limit = 2 ^ 64 - 1

abbrev pub is_question : List ℕ → Bool
is_question reply = slice_index reply 0 == byte "?"

abbrev pub question_count : List (List ℕ) → ℕ
question_count replies = min (count_by is_question replies) count_limit

-- the lines of a text that a line feed ends: as many of its lines as it has line feeds
abbrev pub is_line_feed : ℕ → Bool
is_line_feed character = character == byte "\n"

abbrev pub complete_lines : List ℕ → List (List ℕ)
complete_lines text = take (count_by is_line_feed text) (lines text)

-- of a text that was read in part, what is written for the complete lines of that part was written,
-- after what was in front
pub record HasReadPart (front : List (List ℕ)) (written_for : List (List ℕ) → List (List ℕ))
    (text : List ℕ) (left w₀ w : Option (List ℕ)) : Type 0 where
  pub part : List ℕ
  pub consumed : Consumes (Some text) left part
  pub sent : Appends w₀ w (concat (front ++ written_for (complete_lines part)))

-- the first bytes of the replies were written, as many as counted
pub record HasWrittenBytes (count : ℕ) (w₀ w : Option (List ℕ))
    (replies : List (List ℕ)) : Type 0 where
  pub taken : ℕ
  pub within : taken ≤ length (concat replies)
  pub sent : Appends w₀ w (take taken (concat replies))
  pub counted : count ≡ min taken count_limit

-- all replies before one were written, each whole, and of that one and those after it nothing
pub record HasWrittenReplies (w₀ w : Option (List ℕ)) (replies : List (List ℕ)) : Type 0 where
  pub first : List (List ℕ)
  pub lacking : List ℕ
  pub rest : List (List ℕ)
  pub joined : replies ≡ first ++ (lacking ∷ rest)
  pub sent : Appends w₀ w (concat first)

-- what is written of replies after each fault, where nothing is read on the way
abbrev pub HasStopped : StreamFault → Option (List ℕ) → Option (List ℕ) → List (List ℕ) → Type 0
HasStopped Read w₀ w replies = ⊥
HasStopped (Write count) w₀ w replies = HasWrittenBytes count w₀ w replies
HasStopped Memory w₀ w replies = HasWrittenReplies w₀ w replies

-- what is written after each fault, of replies in front and of the replies to a text
abbrev pub StandsWritten : {S : Type 0} → List (List ℕ) → Language S → S → StreamFault → List ℕ
    → Option (List ℕ) → Option (List ℕ) → Option (List ℕ) → Type 0
StandsWritten front language s Read text left w₀ w =
    HasReadPart front (replies_to language s) text left w₀ w
StandsWritten front language s fault text left w₀ w =
    HasStopped fault w₀ w (front ++ text_replies language s text)

-- whose failure a fault tells: the reader's, the writer's
abbrev pub HasCause : StreamFault → Bool → Bool → Type 0
HasCause Read reader writer = reader ≡ true
HasCause (Write count) reader writer = writer ≡ true
HasCause Memory reader writer = ⊤

-- what is written of one text after each fault: nothing, or as many of its first bytes as are
-- counted
abbrev pub StandsOf : List ℕ → StreamFault → Option (List ℕ) → Option (List ℕ) → Type 0
StandsOf text (Write count) w₀ w = HasWrittenBytes count w₀ w (text ∷ [])
StandsOf text fault w₀ w = Appends w₀ w []

-- a fault, counted after a given number of bytes
abbrev pub fault_after : ℕ → StreamFault → StreamFault
fault_after bytes (Write taken) = Write (min (taken + bytes) count_limit)
fault_after bytes fault = fault

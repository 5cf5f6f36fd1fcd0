-- Part of the public promise: what the monitor's program does for the words of its command line:
-- what it writes where, and its status. What is typed, and what files hold, is what a desk is told.
use Rattle.std.specs.Prelude.{◌≡◌, ◌⊎◌, ℕ, Bool, true, false, if◌then◌else◌, Option, Some, None}
use Rattle.std.specs.Prelude.{IfSome}
use Rattle.std.specs.Prelude.{List, [], ◌∷◌, ◌++◌, ◌||◌, Result, Ok, Err}
use Rattle.std.specs.Io.KnownBytes.{Appends}
use Rattle.std.specs.Str.Lines.{lines}
use Rattle.clap.specs.Words.{fault_of}
use Rattle.lgp_task.specs.CommandLine.{monitor_line}
use Rattle.lgp_task.specs.Task.{IsFaultOn, SessionTask, session_for}
use Rattle.lgp_task.specs.declared.task.TaskFault.{TaskFault}
use Rattle.lgp_table.specs.State.{State}
use Rattle.lgp_stream.specs.Language.{HasCause, StandsOf}
use Rattle.lgp_stream.specs.Transcript.{IsLine}
use Rattle.lgp_stream.specs.declared.stream.StreamFault.{StreamFault}
use Rattle.lgp_stream.specs.declared.stream.StreamFault.TheVariants.{Memory, Read}
use Rattle.lgp_lab.specs.Tasks.{Failures, IsRefused, answered_status, broken_status}
use Rattle.lgp_desk.specs.Desk.{First, Found, Kept, Onward, Seat, Told, Typed, Wanted}
use Rattle.lgp_desk.specs.Desk.{all_said, closing_refuses, closing_text, prompt_at, prompt_in, said_to, taken_seat}
use Rattle.lgp_desk.specs.Desk.{wish_at}
use Rattle.lgp_desk.specs.FileForms.{text_made}
use Rattle.lgp_desk.specs.Files.{FileCall, IsCutOff, IsFound, IsHanded}
use Rattle.lgp_desk.specs.declared.request.Work.{Work}
use Rattle.lgp_desk.specs.declared.request.Work.TheVariants as works
use Rattle.lgp_desk.specs.declared.wish.Wish.{Wish}
use Rattle.lgp_desk.specs.declared.wish.Wish.TheVariants as wishes
use Rattle.lgp_desk.specs.declared.writing.Manner.{Manner}
use Rattle.lgp_desk.specs.declared.writing.Manner.TheVariants.{Echoing, Json}

-- ---- what a desk is told in a session

-- whether it wishes to be told this
abbrev pub is_wished : Wish → Told → Bool
is_wished wishes.Line (Typed line) = true
is_wished wishes.Line (First name) = true
is_wished wishes.Onward Onward = true
is_wished wishes.Read (Found read) = true
is_wished (wishes.Keep made) (Kept kept) = true
is_wished wish told = false

-- what is asked of files to keep what a line names
abbrev pub IsKeptFor : Work → List ℕ → State → List FileCall → Bool → Type 0
IsKeptFor (works.Keep made) name s calls kept = IsHanded name (text_made made s) calls kept
IsKeptFor work name s calls kept = ⊥

-- what is asked of files for what is told: a file is read whole, or what is made of the machine is
-- handed over to be kept; for all else nothing is asked
abbrev pub AreFor : Seat → Told → List FileCall → Type 0
AreFor seat (Found read) calls = IfSome seat.wanted (λ wanted. IsFound wanted.name calls read)
AreFor seat (Kept kept) calls =
    IfSome seat.wanted (λ wanted.
    IsKeptFor wanted.work wanted.name seat.recorded.state.debugger.state calls kept)
AreFor seat told calls = calls ≡ []

-- it is told one thing after another: each is what it wishes for, and for each these calls are made
abbrev pub AreWished : Seat → List Told → List FileCall → Type 0
AreWished seat [] calls = calls ≡ []
AreWished seat (told ∷ more) calls =
    (is_wished (wish_at seat) told ≡ true) × (first : List FileCall) × (rest : List FileCall)
    × (calls ≡ first ++ rest) × AreFor seat told first
    × AreWished (said_to seat told).seat more rest

-- the lines that were typed
abbrev pub lines_in : List Told → List (List ℕ)
lines_in [] = []
lines_in (Typed line ∷ more) = line ∷ lines_in more
lines_in (told ∷ more) = lines_in more

-- it is told names of files in their order, and no line before all of them; some may be left
abbrev pub HasNames : List (List ℕ) → List Told → List (List ℕ) → Type 0
HasNames names [] left = left ≡ names
HasNames names (First name ∷ more) left =
    (rest : List (List ℕ)) × (names ≡ name ∷ rest) × HasNames rest more left
HasNames names (Typed line ∷ more) left = (names ≡ []) × HasNames names more left
HasNames names (told ∷ more) left = HasNames names more left

-- ---- what is written in a session

-- the prompt, which is in front of a typed line and of the end of these lines
abbrev pub prompt_of : Seat → List ℕ
prompt_of seat = prompt_in seat.manner (prompt_at seat.recorded)

abbrev pub prompt_before : Seat → Told → List ℕ
prompt_before seat (Typed line) = prompt_of seat
prompt_before seat told = []

abbrev pub written_for : Seat → List Told → List ℕ
written_for seat [] = []
written_for seat (told ∷ more) =
    prompt_before seat told
    ++ ((said_to seat told).text ++ written_for (said_to seat told).seat more)

-- a desk was told all this, with these calls of files, which left it so, and exactly what is to be
-- written for it was written
pub record IsTold (calls : List FileCall) (before after : Seat) (w₀ w : Option (List ℕ))
    (told : List Told) : Type 0 where
  pub wished : AreWished before told calls
  pub seat : after ≡ (all_said before told).seat
  pub written : Appends w₀ w (written_for before told)

-- at the end: after `quit` nothing; otherwise the prompt and what the desk says to the end
abbrev pub ending : Bool → Seat → List ℕ
ending true seat = prompt_of seat ++ closing_text seat
ending false seat = []

-- whether a reply was a refusal then
abbrev pub refused_at : Bool → Seat → Bool
refused_at true seat = seat.has_refused || closing_refuses seat
refused_at false seat = seat.has_refused

-- ---- a session that is broken off

-- the first of a list
abbrev pub IsFirstOf : {T : Type 0} → List T → List T → Type 0
IsFirstOf {T} first all = (rest : List T) × (all ≡ first ++ rest)

-- what comes next at a desk, where there is something that it is told next, or where there is none:
-- the prompt, and the text for that, or for the end
abbrev pub next_prompt : Seat → Option Told → List ℕ
next_prompt seat (Some told) = prompt_before seat told
next_prompt seat None = prompt_of seat

abbrev pub next_text : Seat → Option Told → List ℕ
next_text seat (Some told) = (said_to seat told).text
next_text seat None = closing_text seat

-- a text that comes next, and what is written in front of it: the prompt, or the text after it
abbrev pub IsNext : Seat → Option Told → List ℕ → List ℕ → Type 0
IsNext seat next front text =
    ((front ≡ []) × (text ≡ next_prompt seat next))
    ⊎ ((front ≡ next_prompt seat next) × (text ≡ next_text seat next))

abbrev pub with_next : List Told → Option Told → List Told
with_next told (Some next) = told ++ next ∷ []
with_next told None = told

-- all lines of a text were typed up to a read that failed: after them there is a piece without a
-- line feed, and what the reader has left
abbrev pub IsTypedUpTo : List ℕ → Option (List ℕ) → List Told → Type 0
IsTypedUpTo text left told =
    (piece : List ℕ) × IsLine piece × (more : List ℕ) × (left ≡ Some more)
    × (lines text ≡ lines_in told ++ lines (piece ++ more))

-- a read failed after the prompt, where a line is to be typed
pub record IsUnread (seat : Seat) (input left : Option (List ℕ)) (told : List Told)
    (next : Option Told) (front : List ℕ) : Type 0 where
  pub none : next ≡ None
  pub prompted : front ≡ prompt_of seat
  pub typed : IfSome input (λ text. IsTypedUpTo text left told)

-- what was asked of files for what a desk wishes for, before memory was refused: nothing, all that is
-- to be asked for something that it is told then, or a file was read in part
abbrev pub IsBegun : Seat → List FileCall → Type 0
IsBegun seat calls =
    (calls ≡ [])
    ⊎ (((told : Told) × (is_wished (wish_at seat) told ≡ true) × AreFor seat told calls)
    ⊎ ((wanted : Wanted) × (seat.wanted ≡ Some wanted) × (wish_at seat ≡ wishes.Read)
    × IsCutOff wanted.name calls))

abbrev pub IsBegunAt : StreamFault → Seat → List FileCall → Type 0
IsBegunAt Memory seat calls = IsBegun seat calls
IsBegunAt fault seat calls = calls ≡ []

-- a desk was told so much, and exactly what is to be written for it was written. A fault broke the
-- session off in a text that comes next: nothing of it was written, or as many bytes as the fault
-- counts. The names came first, and then the first of the lines. These calls of files were made: all
-- for what it was told, and for what comes next, and then those that were begun.
pub record IsBrokenOff (calls : List FileCall) (before : Seat) (names : List (List ℕ))
    (input left : Option (List ℕ)) (fault : StreamFault) (w₀ w : Option (List ℕ)) : Type 0 where
  pub told : List Told
  pub next : Option Told
  pub front : List ℕ
  pub text : List ℕ
  pub between : Option (List ℕ)
  pub asked : List FileCall
  pub begun : List FileCall
  pub calls_are : calls ≡ asked ++ begun
  pub wished : AreWished before (with_next told next) asked
  pub is_begun : IsBegunAt fault (all_said before (with_next told next)).seat begun
  pub is_next : IsNext (all_said before told).seat next front text
  pub written : Appends w₀ between (written_for before told ++ front)
  pub stands : StandsOf text fault between w
  pub read : fault ≡ Read → IsUnread (all_said before told).seat input left told next front
  pub names_left : List (List ℕ)
  pub names_told : HasNames names (with_next told next) names_left
  pub typed : IfSome input (λ text. IsFirstOf (lines_in (with_next told next)) (lines text))

-- ---- a session

-- the lines of a text were typed: all of them where their end was reached
abbrev pub IsTypedOf : List ℕ → List Told → Bool → Type 0
IsTypedOf text told closed =
    IsFirstOf (lines_in told) (lines text) × (closed ≡ true → lines_in told ≡ lines text)

-- what a desk wishes for at the end
abbrev pub last_wish : Bool → Wish
last_wish true = wishes.Line
last_wish false = wishes.Nothing

-- a session: the desk was told the names, then what is typed, and between them whatever files hold,
-- until the lines had an end or `quit` was typed; and these calls of files were made
pub record IsSession (calls : List FileCall) (before : Seat) (names : List (List ℕ))
    (input : Option (List ℕ)) (refused : Bool) (w₀ w : Option (List ℕ)) : Type 0 where
  pub told : List Told
  pub seat : Seat
  pub between : Option (List ℕ)
  pub closed : Bool
  pub is_told : IsTold calls before seat w₀ between told
  pub ended : wish_at seat ≡ last_wish closed
  pub written : Appends between w (ending closed seat)
  pub refused_is : refused ≡ refused_at closed seat
  pub names_left : List (List ℕ)
  pub names_told : HasNames names told names_left
  pub names_all : closed ≡ true → names_left ≡ []
  pub typed : IfSome input (λ text. IsTypedOf text told closed)

-- the status of a session that came to its end, by whether a reply was a refusal, and of one that
-- was broken off
abbrev pub session_status : Result Bool StreamFault → ℕ
session_status (Ok refused) = answered_status (if refused then 1 else 0)
session_status (Err fault) = broken_status fault

module _ (calls : List FileCall) (manner : Manner) (names : List (List ℕ))
    (input left : Option (List ℕ)) where
  -- what became of it; or a fault broke it off, and then a read or a write has failed, as the fault
  -- says, or memory was refused
  abbrev pub HasAnswered : Failures → Result Bool StreamFault → Option (List ℕ) → Option (List ℕ)
      → Type 0
  HasAnswered failures (Ok refused) w₀ w =
      IsSession calls (taken_seat manner) names input refused w₀ w
  HasAnswered failures (Err fault) w₀ w =
      HasCause fault failures.read failures.write
      × IsBrokenOff calls (taken_seat manner) names input left fault w₀ w

  -- a session, with the status for it
  abbrev pub IsHeld : Failures → ℕ → Option (List ℕ) → Option (List ℕ) → Type 0
  IsHeld failures status w₀ w =
      (outcome : Result Bool StreamFault) × HasAnswered failures outcome w₀ w
      × (status ≡ session_status outcome)

-- how replies are written: as JSON or each line above its reply where the task says so
abbrev pub session_manner : Manner → SessionTask → Manner
session_manner manner task =
    if task.is_json then Json else (if task.is_echoing then Echoing else manner)

-- the words of the command line ask for a session, which is held without a message; or they are
-- refused
abbrev pub IsAsked : Type 0 → List FileCall → Manner → List (List ℕ) → Option (List ℕ)
    → Option (List ℕ) → Failures → Bool → ℕ → Option (List ℕ) → Option (List ℕ)
    → Option (List ℕ) → Option (List ℕ) → Type 0
IsAsked A calls manner words input left failures m_failed status w₀ w m₀ m =
    ((fault_of monitor_line words ≡ [])
    × IsHeld calls (session_manner manner (session_for words)) (session_for words).files input
    left failures status w₀ w
    × (m ≡ m₀))
    ⊎ ((fault : TaskFault A) × IsFaultOn monitor_line words fault × (calls ≡ [])
    × IsRefused fault failures.write m_failed status w₀ w m₀ m)

-- Part of the public promise: what a call gives for a reply.
use Rattle.std.specs.Prelude.{◌≡◌, ◌<◌, ◌≤◌, ℕ, Bool, List, [], ◌∷◌, length, slice_get}
use Rattle.std.specs.Option.{option_map_or}
use Rattle.lgp_script.specs.Files.{FileAnswer, asm_answer, run_answer, tape_answer}
use Rattle.lgp_script.specs.Script.{script_faults, script_text}
use Rattle.lgp_call.specs.Room.{filled}
use Rattle.lgp_call.specs.Session.{no_outcome, outcome_of, questions_in}
use Rattle.lgp_call.specs.Status.{answered_status, memory_status, unread_status}
use Rattle.lgp_call.specs.declared.script.Outcome.{Outcome}

-- the reply is given: the status says whether it is a refusal, its bytes are in the room, as far as
-- they fit, and the outcome reports it
pub record IsGiven (is_refused : Bool) (reply : List ℕ) (before : List ℕ) (after : List ℕ)
    (outcome : Outcome) (status : ℕ) : Type 0 where
  pub status_of : status ≡ answered_status (questions_in is_refused)
  pub written : after ≡ filled reply before
  pub reported : outcome ≡ outcome_of is_refused reply

-- no reply is given, and the status says why
pub record IsNotGiven (why : ℕ) (before : List ℕ) (after : List ℕ) (outcome : Outcome)
    (status : ℕ) : Type 0 where
  pub status_of : status ≡ why
  pub unwritten : after ≡ before
  pub unreported : outcome ≡ no_outcome

-- the reply is given, unless there was not enough memory for it
pub record IsGivenUnlessMemory (is_refused : Bool) (reply : List ℕ) (before : List ℕ)
    (after : List ℕ) (outcome : Outcome) (status : ℕ) : Type 0 where
  pub given : status < unread_status → IsGiven is_refused reply before after outcome status
  pub refused : unread_status ≤ status → IsNotGiven memory_status before after outcome status

-- a text with so many questions is given: the status says whether there are any, its bytes are in
-- the room, as far as they fit, and the outcome counts both; unless what it answers could not be
-- read, or there was not enough memory
pub record IsTextGiven (text : List ℕ) (questions : ℕ) (before : List ℕ) (after : List ℕ)
    (outcome : Outcome) (status : ℕ) : Type 0 where
  pub status_of : status < unread_status → status ≡ answered_status questions
  pub written : status < unread_status → after ≡ filled text before
  pub counted : status < unread_status
      → outcome ≡ record { questions = questions; length = length text }
  pub known : status ≤ memory_status
  pub unwritten : unread_status ≤ status → after ≡ before
  pub uncounted : unread_status ≤ status → outcome ≡ no_outcome

-- the replies to a script are given
abbrev pub IsScriptGiven : List ℕ → List ℕ → List ℕ → Outcome → ℕ → Type 0
IsScriptGiven script = IsTextGiven (script_text script) (script_faults script)

-- what a source is answered, by the number of what is wanted of it: its listing, its tape, or a run
-- of at most so many orders; of another number nothing
abbrev pub source_answer : ℕ → ℕ → List ℕ → FileAnswer
source_answer wanted limit source = option_map_or (λ answer. answer source)
    (slice_get (asm_answer ∷ tape_answer ∷ run_answer limit ∷ []) wanted)
    (record { text = []; status = 0 })

-- that answer is given
abbrev pub IsSourceAnswered : ℕ → ℕ → List ℕ → List ℕ → List ℕ → Outcome → ℕ → Type 0
IsSourceAnswered wanted limit source = IsTextGiven
    (source_answer wanted limit source).text (source_answer wanted limit source).status

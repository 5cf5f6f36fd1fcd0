-- Part of the public promise: what is asked of files, one call after another, and what they answer:
-- how a file is read whole, or why it is refused, and how a text is kept.
use Rattle.std.specs.Prelude.{◌≡◌, ◌⊎◌, ◌<◌, ◌≤◌, ℕ, Bool, true, false, Option, Some, None}
use Rattle.std.specs.Prelude.{List, [], ◌∷◌, ◌++◌, length, take, Result, Ok, Err}
use Rattle.std.specs.Str.{IsUtf8}
use Rattle.lgp_desk.specs.declared.files.FileTrouble.{FileTrouble}
use Rattle.lgp_desk.specs.declared.files.FileTrouble.TheVariants as troubles

-- a file of this name is opened, or cannot be; a read of it, with room for n bytes, gave
-- bytes, none at its end, or failed; it is closed; and a text is handed over to be kept under a
-- name, and is kept, or not
pub data FileCall : Type 0 where
  Opened : List ℕ → Bool → FileCall
  Gave : ℕ → Option (List ℕ) → FileCall
  Closed : FileCall
  Handed : List ℕ → List ℕ → Bool → FileCall

-- what a read gave that put n bytes into a buffer
abbrev pub given : {E : Type 0} → Result ℕ E → List ℕ → FileCall
given (Ok count) buffer = Gave (length buffer) (Some (take count buffer))
given (Err error) buffer = Gave (length buffer) None

-- where files in one state answer a call, and are in another state then: they answered all these
-- calls, one after another
abbrev pub HaveAnswered : {S : Type 0} → (S → FileCall → S → Type 0) → S → List FileCall → S
    → Type 0
HaveAnswered {S} answer before [] after = after ≡ before
HaveAnswered {S} answer before (call ∷ more) after =
    (next : S) × answer before call next × HaveAnswered answer next more after

-- files went from one state to another by calls, of which this holds
abbrev pub ByCalls : {S : Type 0} → (S → FileCall → S → Type 0) → S → S
    → (List FileCall → Type 0) → Type 0
ByCalls {S} answer before after holds =
    (calls : List FileCall) × HaveAnswered answer before calls after × holds calls

-- ---- a file that is read

-- reads each gave bytes, and all of them together this text
abbrev pub AreReads : List FileCall → List ℕ → Type 0
AreReads [] text = text ≡ []
AreReads (Gave room (Some portion) ∷ more) text =
    (portion ≡ [] → ⊥) × (rest : List ℕ) × (text ≡ portion ++ rest) × AreReads more rest
AreReads (call ∷ more) text = ⊥

-- the most bytes that a file may have which is read
abbrev pub file_limit : ℕ
file_limit = 16777216

-- an open file was read: to its end, which gave its text; or until a read failed, or it had given
-- more than it may have
abbrev pub IsGiven : List FileCall → Result (List ℕ) FileTrouble → Type 0
IsGiven calls (Ok text) =
    (reads : List FileCall) × (room : ℕ) × (0 < room)
    × (calls ≡ reads ++ Gave room (Some []) ∷ []) × AreReads reads text
    × (length text ≤ file_limit)
IsGiven calls (Err troubles.NotRead) =
    (reads : List FileCall) × (room : ℕ) × (text : List ℕ)
    × (calls ≡ reads ++ Gave room None ∷ []) × AreReads reads text × (length text ≤ file_limit)
IsGiven calls (Err troubles.TooLong) =
    (text : List ℕ) × AreReads calls text × (file_limit < length text)
IsGiven calls (Err trouble) = ⊥

-- what was found in the file of a name by these calls, or why it was refused: nothing is asked for a
-- name that is no text; else it was opened and read and closed, if it could be opened
abbrev pub IsFound : List ℕ → List FileCall → Result (List ℕ) FileTrouble → Type 0
IsFound name calls (Err troubles.NotNamed) = (IsUtf8 name → ⊥) × (calls ≡ [])
IsFound name calls (Err troubles.NotOpened) = IsUtf8 name × (calls ≡ Opened name false ∷ [])
IsFound name calls read =
    IsUtf8 name × (reads : List FileCall) × (calls ≡ Opened name true ∷ (reads ++ Closed ∷ []))
    × IsGiven reads read

-- the same, where memory was refused for what it gave
abbrev pub IsCutOff : List ℕ → List FileCall → Type 0
IsCutOff name calls =
    IsUtf8 name × (reads : List FileCall) × (text : List ℕ)
    × (calls ≡ Opened name true ∷ (reads ++ Closed ∷ [])) × AreReads reads text

-- ---- a text that is kept

-- a text was handed over, to be kept under a name; where that is no text, nothing was, and it is
-- not kept
abbrev pub IsHanded : List ℕ → List ℕ → List FileCall → Bool → Type 0
IsHanded name text calls kept =
    (IsUtf8 name × (calls ≡ Handed name text kept ∷ []))
    ⊎ ((IsUtf8 name → ⊥) × (calls ≡ []) × (kept ≡ false))

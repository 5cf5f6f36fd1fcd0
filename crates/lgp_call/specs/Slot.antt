-- Part of the public promise: what the calls of other languages do with the place of a session, in
-- which one is open or none.
use Rattle.std.specs.Prelude.{◌≡◌, ◌<◌, ◌≤◌, ℕ, Bool, List, Option, Some, None}
use Rattle.lgp_desk.specs.Desk.{wish_at}
use Rattle.lgp_call.specs.Reply.{IsGiven, IsGivenUnlessMemory, IsNotGiven}
use Rattle.lgp_call.specs.Session.{SessionState, opening_session}
use Rattle.lgp_call.specs.Telling.{wish_number, with_manner}
use Rattle.lgp_call.specs.Status.{closed_status, memory_status, open_status, unread_status}
use Rattle.lgp_call.specs.declared.script.Outcome.{Outcome}

-- a session is opened; one that is open stays as it is
pub record IsOpened (old : Option SessionState) (new : Option SessionState) (status : ℕ)
    : Type 0 where
  pub opened : status ≡ 0 → new ≡ Some opening_session
  pub refused : status ≡ memory_status → new ≡ None
  pub known : old ≡ None → 0 < status → status ≡ memory_status
  pub already : (state : SessionState) → old ≡ Some state → status ≡ open_status
  pub unchanged : (state : SessionState) → old ≡ Some state → new ≡ old

-- something is done with a session, and the reply is given that it has then; where there was not
-- enough memory, the session is closed
pub record IsDone (next : SessionState → SessionState) (old : Option SessionState)
    (new : Option SessionState) (before : List ℕ) (after : List ℕ) (outcome : Outcome)
    (status : ℕ) : Type 0 where
  pub given : (state : SessionState) → old ≡ Some state
      → IsGivenUnlessMemory (next state).refused (next state).reply before after outcome status
  pub stands : (state : SessionState) → old ≡ Some state → status < unread_status
      → new ≡ Some (next state)
  pub ended : unread_status ≤ status → new ≡ None
  pub closed : old ≡ None → IsNotGiven closed_status before after outcome status

-- the last reply is given once more
pub record IsRepeated (old : Option SessionState) (new : Option SessionState)
    (before : List ℕ) (after : List ℕ) (outcome : Outcome) (status : ℕ) : Type 0 where
  pub repeated : (state : SessionState) → old ≡ Some state
      → IsGiven state.refused state.reply before after outcome status
  pub unchanged : new ≡ old
  pub closed : old ≡ None → IsNotGiven closed_status before after outcome status

-- the session is closed, and this text is given, as a refusal or not
pub record IsClosed (refused : SessionState → Bool) (text : SessionState → List ℕ)
    (old : Option SessionState) (new : Option SessionState) (before : List ℕ) (after : List ℕ)
    (outcome : Outcome) (status : ℕ) : Type 0 where
  pub given : (state : SessionState) → old ≡ Some state
      → IsGivenUnlessMemory (refused state) (text state) before after outcome status
  pub ended : new ≡ None
  pub closed : old ≡ None → IsNotGiven closed_status before after outcome status

-- what it wishes for is told by its number
pub record IsWishing (old : Option SessionState) (new : Option SessionState) (status : ℕ)
    : Type 0 where
  pub wishes : (state : SessionState) → old ≡ Some state → status ≡ wish_number (wish_at state.seat)
  pub unchanged : new ≡ old
  pub closed : old ≡ None → status ≡ closed_status

-- how its replies are written is set
pub record HasManner (number : ℕ) (old : Option SessionState) (new : Option SessionState)
    (status : ℕ) : Type 0 where
  pub stands : (state : SessionState) → old ≡ Some state → new ≡ Some (with_manner state number)
  pub known : (state : SessionState) → old ≡ Some state → status ≡ 0
  pub none : old ≡ None → new ≡ None
  pub closed : old ≡ None → status ≡ closed_status

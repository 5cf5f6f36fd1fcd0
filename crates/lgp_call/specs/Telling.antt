-- Part of the public promise: what the desk of a session is told and what it shows, each by its
-- number.
use Rattle.std.specs.Prelude.{ℕ, ◌==◌, ◌&&◌, Bool, true, false, fold, if◌then◌else◌, Option}
use Rattle.std.specs.Prelude.{unwrap_or, List, [], ◌∷◌, slice_get, Ok, Err}
use Rattle.std.specs.List.{AllByRecursion}
use Rattle.std.specs.Option.{option_map_or}
use Rattle.lgp_desk.specs.Desk.{First, Found, Handed, IsSayable, Kept, Onward, Seat, Told, Typed}
use Rattle.lgp_desk.specs.Desk.{said_to, wish_at}
use Rattle.lgp_desk.specs.FileForms.{text_made}
use Rattle.lgp_desk.specs.Sessions.{prompt_of}
use Rattle.lgp_desk.specs.declared.files.FileTrouble.TheVariants.{NotNamed, NotOpened, NotRead}
use Rattle.lgp_desk.specs.declared.files.FileTrouble.TheVariants.{TooLong}
use Rattle.lgp_desk.specs.declared.wish.Wish.{Wish}
use Rattle.lgp_desk.specs.declared.wish.Wish.TheVariants as wishes
use Rattle.lgp_desk.specs.declared.writing.Manner.{Manner}
use Rattle.lgp_desk.specs.declared.writing.Manner.TheVariants as manners
use Rattle.lgp_call.specs.Session.{SessionState, after_line, has_line_feed, more_than_a_line}

-- what a number says of bytes: a line that is typed, the name of a file that comes first, to go on
-- with the lines of a file, what a file holds, why one is refused, and whether something is kept
abbrev pub told_of : ℕ → List ℕ → Option Told
told_of what text = slice_get (
    Typed text ∷ First text ∷ Onward ∷ Found (Ok text)
    ∷ Found (Err NotOpened) ∷ Found (Err NotRead) ∷ Found (Err TooLong) ∷ Found (Err NotNamed)
    ∷ Kept true ∷ Kept false ∷ []) what

-- a desk that knows of no refusal yet
abbrev pub forgetful : Seat → Seat
forgetful seat = record seat { has_refused = false }

-- a session after something that its desk is told, with the text that is to be written, and whether
-- something in it is refused
abbrev pub with_told : SessionState → Told → SessionState
with_told session told =
    let said = said_to (forgetful session.seat) told in
    record { seat = said.seat; reply = said.text; refused = said.seat.has_refused }

-- the same by its number; several lines are refused, and of another number nothing is done
abbrev pub are_several : ℕ → List ℕ → Bool
are_several what text = what == 0 && has_line_feed text

abbrev pub with_nothing : SessionState → List ℕ → Bool → SessionState
with_nothing session reply refused =
    record { seat = forgetful session.seat; reply = reply; refused = refused }

abbrev pub after_told : SessionState → ℕ → List ℕ → SessionState
after_told session what text =
    if are_several what text then with_nothing session more_than_a_line true
    else option_map_or (with_told session) (told_of what text) (with_nothing session [] false)

-- what it wishes for
abbrev pub wish_number : Wish → ℕ
wish_number wishes.Line = 0
wish_number wishes.Onward = 1
wish_number wishes.Read = 2
wish_number (wishes.Keep made) = 3
wish_number wishes.Nothing = 4

-- the name of the file that it wishes for, and what is to be kept in it
abbrev pub wanted_name : Seat → List ℕ
wanted_name seat = option_map_or (λ wanted. wanted.name) seat.wanted []

abbrev pub kept_in : Seat → Wish → List ℕ
kept_in seat (wishes.Keep made) = text_made made seat.recorded.state.debugger.state
kept_in seat wish = []

-- what is shown by its number: the prompt, that name, and that text
abbrev pub shown_of : Seat → ℕ → List ℕ
shown_of seat what = unwrap_or (slice_get (
    prompt_of seat ∷ wanted_name seat ∷ kept_in seat (wish_at seat) ∷ []) what) []

unfoldable pub after_shown : SessionState → ℕ → SessionState
after_shown session what =
    record session { reply = shown_of session.seat what; refused = false }

-- how replies are written, by its number
abbrev pub manner_of : ℕ → Option Manner
manner_of number =
    slice_get (manners.Bare ∷ manners.Prompting ∷ manners.Echoing ∷ manners.Json ∷ []) number

abbrev pub with_manner : SessionState → ℕ → SessionState
with_manner session number = option_map_or
    (λ manner. record session { seat = record session.seat { manner = manner } })
    (manner_of number) session

-- what is done with a session: the monitor is asked a line; the desk is told something, or shows
-- something, or its manner is set, each by a number
pub data Deed : Type 0 where
  Asks : List ℕ → Deed
  Tells : ℕ → List ℕ → Deed
  Shows : ℕ → Deed
  Sets : ℕ → Deed

abbrev pub after_deed : SessionState → Deed → SessionState
after_deed session (Asks line) = after_line session line
after_deed session (Tells what text) = after_told session what text
after_deed session (Shows what) = after_shown session what
after_deed session (Sets number) = with_manner session number

abbrev pub after_deeds : SessionState → List Deed → SessionState
after_deeds session deeds = fold after_deed session deeds

-- what the monitor is handed for something that the desk is told
abbrev pub handed_for : SessionState → Deed → List Handed
handed_for session (Tells what text) = if are_several what text then []
    else option_map_or (λ told. (said_to (forgetful session.seat) told).handed)
    (told_of what text) []
handed_for session deed = []

-- a script can say all that the monitor is handed
abbrev pub AreSayableDeeds : SessionState → List Deed → Type 0
AreSayableDeeds session [] = Unit {0}
AreSayableDeeds session (deed ∷ more) =
    AllByRecursion IsSayable (handed_for session deed)
    × AreSayableDeeds (after_deed session deed) more

-- Part of the public promise: a session, in which the monitor answers one line after another.
use Rattle.std.specs.Prelude.{ℕ, Bool, true, false, fold, if◌then◌else◌, List, [], codes, length}
use Rattle.std.specs.List.{list_any}
use Rattle.lgp_stream.specs.Language.{is_line_feed}
use Rattle.lgp_fields.specs.declared.records.RecordForm.TheVariants.{Lines}
use Rattle.lgp_monitor.specs.Closing.{is_faulty}
use Rattle.lgp_monitor.specs.Monitor.{answered_in, monitor_language}
use Rattle.lgp_desk.specs.Desk.{Seat, taken_seat}
use Rattle.lgp_desk.specs.declared.writing.Manner.TheVariants.{Bare}
use Rattle.lgp_call.specs.declared.script.Outcome.{Outcome}

-- a desk, what was replied last, and whether that is a refusal
pub record SessionState : Type 0 where
  pub seat : Seat
  pub reply : List ℕ
  pub refused : Bool

-- before the first line
abbrev pub opening_session : SessionState
opening_session = record { seat = taken_seat Bare; reply = []; refused = false }

-- bytes with a line feed among them are more than a line: they are refused, and nothing is done
abbrev pub has_line_feed : List ℕ → Bool
has_line_feed line = list_any is_line_feed line

unfoldable pub more_than_a_line : List ℕ
more_than_a_line = codes "? 1 Form: these are several lines; give them one at a time\n"

-- after a line
abbrev pub after_line : SessionState → List ℕ → SessionState
after_line session line =
    if has_line_feed line then record session { reply = more_than_a_line; refused = true }
    else record {
      seat = record session.seat { recorded = monitor_language.after session.seat.recorded line };
      reply = monitor_language.reply session.seat.recorded line;
      refused = (answered_in session.seat.recorded Lines line).is_refused;
    }

-- after lines, one after another
abbrev pub after_all : SessionState → List (List ℕ) → SessionState
after_all session lines = fold after_line session lines

-- the reply to the session's end, and whether that is a refusal: of a source that was left open
abbrev pub closing_reply : SessionState → List ℕ
closing_reply session = monitor_language.closing session.seat.recorded

abbrev pub closing_refused : SessionState → Bool
closing_refused session = is_faulty session.seat.recorded.state.opened

-- what is reported of a reply: whether it is a refusal, as a number, and its length
abbrev pub questions_in : Bool → ℕ
questions_in refused = if refused then 1 else 0

abbrev pub outcome_of : Bool → List ℕ → Outcome
outcome_of refused reply =
    record { questions = questions_in refused; length = length reply }

-- what is reported where there is no reply
abbrev pub no_outcome : Outcome
no_outcome = record { questions = 0; length = 0 }

-- What a session is given leads where its transcript does.
use Rattle.std.proofs.Common.{◌≡◌, ℕ, zero, suc, ◌==◌, ◌&&◌, ◌||◌, Bool, true, false, cond, Option, Some, None, List, [], ◌∷◌, refl}
use Rattle.std.specs.Option.{option_map_or}
use Rattle.lgp_stream.specs.Language.{is_line_feed}
use Rattle.lgp_stream.specs.Transcript.{IsLine, IsReportedByTranscript}
use Rattle.lgp_stream.proofs.LineLaws.{IsReported-all, IsReported-meaning, IsReported-none}
use Rattle.lgp_script.specs.Script.{script_language}
use Rattle.lgp_script.specs.LabState.{opening_state}
use Rattle.lgp_fields.specs.declared.records.RecordForm.TheVariants.{Lines}
use Rattle.lgp_monitor.specs.Monitor.{answered_in, meaning_at, monitor_language}
use Rattle.lgp_monitor.proofs.LineLemmas.{free-at}
use Rattle.lgp_desk.specs.Desk.{IsTyped, Told, said_to}
use Rattle.lgp_desk.specs.declared.writing.Manner.{Manner}
use Rattle.lgp_desk.proofs.TranscriptLaws.{AreSayable, IsReported-at, reported-told}
use Rattle.lgp_call.specs.Telling.{Asks, Deed, Sets, Shows, Tells, AreSayableDeeds, after_deed, after_deeds, after_shown, after_told, are_several, forgetful, handed_for, manner_of, told_of, with_nothing, with_told}
use Rattle.lgp_call.specs.Session.{SessionState, after_all, after_line, has_line_feed, more_than_a_line, opening_session}

-- bytes without a line feed are a line
line_without : (line : List ℕ) → has_line_feed line ≡ false → IsLine line
line_without [] none = tt
line_without (b ∷ line) none = by_first (is_line_feed b) (has_line_feed line) refl refl none (λ more. line_without line more) where
  by_first : (first more : Bool) → is_line_feed b ≡ first → has_line_feed line ≡ more → (first || more) ≡ false
      → (has_line_feed line ≡ false → IsLine line) → IsLine (b ∷ line)
  by_first true more e f none rest = cc none
  by_first false true e f none rest = cc none
  by_first false false e f none rest = (e, rest f)

-- ---- the monitor is asked a line

reported_line : (session : SessionState) (line : List ℕ) → IsReported-at session.seat → IsReported-at (after_line session line).seat
reported_line session line reported = by_feed (has_line_feed line) refl where
  by_feed : (feed : Bool) → has_line_feed line ≡ feed
      → IsReported-at (cond feed (record session { reply = more_than_a_line; refused = true })
      (record { seat = record session.seat { recorded = monitor_language.after session.seat.recorded line }; reply = monitor_language.reply session.seat.recorded line; refused = (answered_in session.seat.recorded Lines line).is_refused })).seat
  by_feed true e = reported
  by_feed false e = (
    IsReported-meaning script_language opening_state session.seat.recorded (meaning_at session.seat.recorded line) reported.0
        (free-at session.seat.recorded line (line_without line e)),
    reported.1,
    reported.2,
  )

reported_all : (session : SessionState) (lines : List (List ℕ)) → IsReported-at session.seat → IsReported-at (after_all session lines).seat
reported_all session [] reported = reported
reported_all session (line ∷ lines) reported = reported_all (after_line session line) lines (reported_line session line reported)

reported_first : IsReported-at opening_session.seat
reported_first = (IsReported-none script_language opening_state, tt, tt)

pub reported_by_session : (lines : List (List ℕ)) → IsReportedByTranscript script_language opening_state (after_all opening_session lines).seat.recorded
reported_by_session lines =
    IsReported-all script_language opening_state (after_all opening_session lines).seat.recorded (reported_all opening_session lines reported_first).0

-- ---- its desk is told something, or a manner is set

abbrev IsFreeTold : Option Told → Type 0
IsFreeTold (Some told) = IsTyped told
IsFreeTold None = Unit {0}

free_told : (what : ℕ) (text : List ℕ) → (what == 0 && has_line_feed text) ≡ false → IsFreeTold (told_of what text)
free_told zero text none = line_without text none
free_told (suc zero) text none = tt
free_told (suc (suc zero)) text none = tt
free_told (suc (suc (suc zero))) text none = tt
free_told (suc (suc (suc (suc zero)))) text none = tt
free_told (suc (suc (suc (suc (suc zero))))) text none = tt
free_told (suc (suc (suc (suc (suc (suc zero)))))) text none = tt
free_told (suc (suc (suc (suc (suc (suc (suc zero))))))) text none = tt
free_told (suc (suc (suc (suc (suc (suc (suc (suc zero)))))))) text none = tt
free_told (suc (suc (suc (suc (suc (suc (suc (suc (suc zero))))))))) text none = tt
free_told (suc (suc (suc (suc (suc (suc (suc (suc (suc (suc more)))))))))) text none = tt

reported_told : (session : SessionState) (what : ℕ) (text : List ℕ) → AreSayable (handed_for session (Tells what text)) → IsReported-at session.seat → IsReported-at (after_told session what text).seat
reported_told session what text sayable reported = by_feed (are_several what text) refl sayable where
  by_told : (told : Option Told) → IsFreeTold told → AreSayable (option_map_or (λ (it : Told). (said_to (forgetful session.seat) it).handed) told [])
      → IsReported-at (option_map_or (with_told session) told (with_nothing session [] false)).seat
  by_told (Some told) free all = reported-told (forgetful session.seat) told free reported all
  by_told None free all = reported

  by_feed : (several : Bool) → are_several what text ≡ several
      → AreSayable (cond several [] (option_map_or (λ (it : Told). (said_to (forgetful session.seat) it).handed) (told_of what text) []))
      → IsReported-at (cond several (with_nothing session more_than_a_line true) (option_map_or (with_told session) (told_of what text) (with_nothing session [] false))).seat
  by_feed true e all = reported
  by_feed false e all = by_told (told_of what text) (free_told what text e) all

reported_manner : (session : SessionState) (manner : Option Manner) → IsReported-at session.seat
    → IsReported-at (option_map_or (λ (it : Manner). record session { seat = record session.seat { manner = it } }) manner session).seat
reported_manner session (Some manner) reported = reported
reported_manner session None reported = reported

reported_deed : (session : SessionState) (deed : Deed) → AreSayable (handed_for session deed) → IsReported-at session.seat → IsReported-at (after_deed session deed).seat
unfolding after_shown
reported_deed session (Asks line) sayable reported = reported_line session line reported
reported_deed session (Tells what text) sayable reported = reported_told session what text sayable reported
reported_deed session (Shows what) sayable reported = reported
reported_deed session (Sets number) sayable reported = reported_manner session (manner_of number) reported

reported_deeds : (session : SessionState) (deeds : List Deed) → AreSayableDeeds session deeds → IsReported-at session.seat → IsReported-at (after_deeds session deeds).seat
reported_deeds session [] sayable reported = reported
reported_deeds session (deed ∷ more) sayable reported = reported_deeds (after_deed session deed) more sayable.1 (reported_deed session deed sayable.0 reported)

pub reported_by_deeds : (deeds : List Deed) → AreSayableDeeds opening_session deeds → IsReportedByTranscript script_language opening_state (after_deeds opening_session deeds).seat.recorded
reported_by_deeds deeds sayable =
    IsReported-all script_language opening_state (after_deeds opening_session deeds).seat.recorded (reported_deeds opening_session deeds sayable reported_first).0

-- Part of the public promise: the monitor, a language in which a typed line stands for lines of a
-- script.
use Rattle.std.specs.Prelude.{ℕ, ◌||◌, ◌&&◌, Bool, true, false, not, if◌then◌else◌, is_some, nat_lt}
use Rattle.std.specs.Prelude.{Option, None, unwrap_or, List, [], ◌∷◌, ◌++◌, codes}
use Rattle.std.specs.Option.{option_map_or}
use Rattle.lgp_word.specs.Digits.{digits_of}
use Rattle.lgp_word.specs.Order.{plain_order}
use Rattle.lgp_word.specs.declared.order.Op.TheVariants.{U}
use Rattle.lgp_stream.specs.KeptLine.{Kept, kept_of}
use Rattle.lgp_stream.specs.Language.{Answer, Language}
use Rattle.lgp_stream.specs.LineWords.{after_word, first_word}
use Rattle.lgp_table.specs.declared.panel.Panel.{Panel}
use Rattle.lgp_stream.specs.Transcript.{Meaning, Lines, Anew, Recorded, after_lines}
use Rattle.lgp_stream.specs.Transcript.{after_meaning, replies_text, stand_in}
use Rattle.lgp_command.specs.Command.{is_comment, text_after_word}
use Rattle.lgp_command.specs.CommandText.{command_text}
use Rattle.lgp_command.specs.declared.command.Command.{Command}
use Rattle.lgp_debugger.specs.Debugging.{order_origins}
use Rattle.lgp_fields.specs.declared.records.RecordForm.{RecordForm}
use Rattle.lgp_fields.specs.declared.records.RecordForm.TheVariants.{Lines as AsLines}
use Rattle.lgp_script.specs.Script.{replied_to, script_language}
use Rattle.lgp_script.specs.HistoryCommands.{orders_run, replied_to_run}
use Rattle.lgp_script.specs.LabState.{LabState, labels_of, opening_state}
use Rattle.lgp_script.specs.declared.refusal.Refusal.TheVariants.{TooLong}
use Rattle.lgp_monitor.specs.Moments.{line_there, moment_asked, not_yet_text}
use Rattle.lgp_monitor.specs.Ways.{meaning_at_order, order_of_way, orders_there, refuses_way}
use Rattle.lgp_monitor.specs.Ways.{reply_at_order, session_at}
use Rattle.lgp_monitor.specs.declared.way.Way.{Way}
use Rattle.lgp_monitor.specs.Closing.{closes_faulty, closing_reply}
use Rattle.lgp_monitor.specs.Questions.{answer_to}
use Rattle.lgp_monitor.specs.Forms.{form_line, help_text}
use Rattle.lgp_monitor.specs.Reasons.{explained_text, is_refusal, refused_text, run_end_text}
use Rattle.lgp_monitor.specs.Telling.{form_of, reported_text}
use Rattle.lgp_monitor.specs.Entry.{entry_of, has_objects, in_form}
use Rattle.lgp_monitor.specs.Wrongs.{misformed_text}
use Rattle.lgp_monitor.specs.Operating.{operated, run_line, starts_text}
use Rattle.lgp_monitor.specs.Untils.{is_met, met_text, orders_done, replied_until}
use Rattle.lgp_when.specs.declared.until.Until.{Until}
use Rattle.lgp_monitor.specs.declared.answered.Answered.{Answered}
use Rattle.lgp_monitor.specs.declared.telling.Telling.{Telling}
use Rattle.lgp_monitor.specs.declared.entry.Entry.{Entry}
use Rattle.lgp_monitor.specs.declared.entry.Entry.TheVariants as entry

-- ---- what lines stand for

-- to start at an address: the jump there is keyed in and executed as one order, and the machine is
-- started in Normal
unfoldable pub go_lines : ℕ → List (List ℕ)
go_lines address =
    codes "press manual" ∷ (codes "type " ++ digits_of (plain_order U address))
    ∷ codes "press fill" ∷ codes "press oneop" ∷ codes "press execute" ∷ codes "orders 1"
    ∷ codes "press normal" ∷ codes "press start" ∷ []

-- ---- replies

abbrev pub panel_at : LabState → Panel
panel_at lab = lab.debugger.state.core.panel

module _ (recorded : Recorded LabState) where
  -- the names of the last source that assembled, and the counter
  abbrev pub names_at : List (List ℕ × ℕ)
  names_at = labels_of recorded.state.source

  abbrev pub counter_at : ℕ
  counter_at = (panel_at recorded.state).counter

  -- lines of a script answered, with this reply
  abbrev pub answered_with : List ℕ → List (List ℕ) → Answer (Recorded LabState)
  answered_with reply lines =
      record { reply = reply; after = after_lines script_language recorded lines }

  -- a command of scripts: its reply, a refusal with its reason
  abbrev pub explained_command : Command → List ℕ → Answer (Recorded LabState)
  explained_command command text =
      let replied = replied_to recorded.state command text in
      answered_with (explained_text replied.after replied.reply) (command_text command text ∷ [])

  -- a run: what is written about its orders, and its reply, with what is said after it
  abbrev pub told_run : Telling → ℕ → Answer (Recorded LabState)
  told_run telling limit =
      let replied = replied_to_run recorded.state limit in
      answered_with (reported_text telling names_at recorded.state.debugger.state
      (order_origins recorded.state.debugger) (orders_run limit recorded.state.debugger)
      ++ run_end_text (form_of telling) replied.after replied.reply) (run_line limit ∷ [])

  -- the runs of an operator: the reply to the last one, and how often Start was pressed
  abbrev pub answer_to_operating : ℕ → Answer (Recorded LabState)
  answer_to_operating limit =
      let done = operated limit recorded.state in
      answered_with (explained_text done.last.after done.last.reply ++ starts_text done.starts)
      done.lines

  -- a run until a condition is met: its reply, and whether it was met
  abbrev pub answer_to_until : Until → ℕ → Answer (Recorded LabState)
  answer_to_until until limit =
      let replied = replied_until until limit recorded.state in
      answered_with (explained_text replied.after replied.reply
      ++ met_text (is_met until limit recorded.state))
      (run_line (orders_done until limit recorded.state) ∷ [])

  -- a line that leads by a way to the beginning of an order, if there is one
  abbrev pub answer_at_order : Way → RecordForm → Option ℕ → Answer (Recorded LabState)
  answer_at_order way form order = record {
    reply = reply_at_order recorded way form order;
    after = after_meaning script_language opening_state recorded
        (meaning_at_order recorded order);
  }

  -- what a line of which this is kept stands for; what is shown stands for no line
  abbrev pub meaning_of : Entry → Kept → Meaning
  meaning_of entry.Itself kept = Lines (stand_in kept ∷ [])
  meaning_of (entry.Misformed part wrong) kept = Lines (stand_in kept ∷ [])
  meaning_of (entry.Script command) kept =
      Lines (command_text command (text_after_word kept.front) ∷ [])
  meaning_of (entry.Go address) kept = Lines (go_lines address)
  meaning_of (entry.Reported telling limit) kept = Lines (run_line limit ∷ [])
  meaning_of (entry.Operate limit) kept = Lines (operated limit recorded.state).lines
  meaning_of (entry.Until until limit) kept =
      Lines (run_line (orders_done until limit recorded.state) ∷ [])
  meaning_of entry.New kept = Anew []
  meaning_of (entry.To way form) kept = meaning_at_order recorded (order_of_way recorded way)
  meaning_of asked kept = Lines []

  -- nothing is replied to a blank line or a comment
  abbrev pub passed_reply : Kept → List ℕ
  passed_reply kept =
      if kept.blank || is_comment kept.front then [] else refused_text TooLong

  -- the reply to a line of which this is kept
  abbrev pub reply_of : Entry → Kept → List ℕ
  reply_of entry.Itself kept = passed_reply kept
  reply_of (entry.Misformed part wrong) kept = misformed_text kept.front part wrong
  reply_of (entry.Script command) kept =
      (explained_command command (text_after_word kept.front)).reply
  reply_of (entry.Go address) kept = replies_text script_language recorded (go_lines address)
  reply_of (entry.Reported telling limit) kept = (told_run telling limit).reply
  reply_of (entry.Operate limit) kept = (answer_to_operating limit).reply
  reply_of (entry.Until until limit) kept = (answer_to_until until limit).reply
  reply_of (entry.Asked question) kept = answer_to question recorded.state
  reply_of entry.Transcript kept = recorded.transcript
  reply_of entry.New kept = codes "new\n"
  reply_of (entry.To way form) kept = reply_at_order recorded way form (order_of_way recorded way)
  reply_of entry.Help kept = help_text
  reply_of (entry.HelpOf verb) kept = form_line (first_word (after_word kept.front)) verb

  -- a line of which this is kept, answered
  abbrev pub answer_of : Entry → Kept → Answer (Recorded LabState)
  answer_of asked kept = record {
    reply = reply_of asked kept;
    after = after_meaning script_language opening_state recorded (meaning_of asked kept);
  }

  -- whether a line of which this is kept is refused
  abbrev pub refused_of : Entry → Kept → Bool
  refused_of entry.Itself kept = not (kept.blank || is_comment kept.front)
  refused_of (entry.Misformed part wrong) kept = true
  refused_of (entry.Script command) kept =
      is_refusal (replied_to recorded.state command (text_after_word kept.front)).reply
  refused_of (entry.Reported telling limit) kept =
      is_refusal (replied_to_run recorded.state limit).reply
  refused_of (entry.Operate limit) kept = is_refusal (operated limit recorded.state).last.reply
  refused_of (entry.Until until limit) kept =
      is_refusal (replied_until until limit recorded.state).reply
  refused_of (entry.To way form) kept = refuses_way recorded way
  refused_of asked kept = false

  -- what its answer is beside its text
  abbrev pub answered_of : Entry → Kept → Answered
  answered_of asked kept = record {
    is_refused = refused_of asked kept;
    has_objects = not (refused_of asked kept) && has_objects asked;
  }

  -- a line of an open source, which is the source's, answered; where it closes a source with faults,
  -- their marks are shown
  abbrev pub answer_in_source : Kept → Answer (Recorded LabState)
  answer_in_source kept =
      answered_with (unwrap_or (closing_reply recorded.state.opened kept)
      (replies_text script_language recorded (stand_in kept ∷ []))) (stand_in kept ∷ [])

  abbrev pub answered_in_source : Kept → Answered
  answered_in_source kept =
      record { is_refused = closes_faulty recorded.state.opened kept; has_objects = false }

  -- what a line asks for where no source is open
  unfoldable pub entry_at : List ℕ → Entry
  entry_at line = entry_of names_at counter_at (kept_of line)

  -- the same, with replies for programs in a form
  abbrev pub entry_in : RecordForm → List ℕ → Entry
  entry_in form line = in_form form (entry_at line)

  unfoldable pub meaning_now : List ℕ → Meaning
  meaning_now line =
      if is_some recorded.state.opened then Lines (stand_in (kept_of line) ∷ [])
      else meaning_of (entry_at line) (kept_of line)

  -- the reply to a line, to a program in a form
  unfoldable pub reply_now : RecordForm → List ℕ → List ℕ
  reply_now form line =
      if is_some recorded.state.opened then (answer_in_source (kept_of line)).reply
      else reply_of (entry_in form line) (kept_of line)

  -- a line answered now
  abbrev pub answer_now : RecordForm → List ℕ → Answer (Recorded LabState)
  answer_now form line = record {
    reply = reply_now form line;
    after = after_meaning script_language opening_state recorded (meaning_now line);
  }

  -- what its answer is beside its text
  unfoldable pub answered_now : RecordForm → List ℕ → Answered
  answered_now form line =
      if is_some recorded.state.opened then answered_in_source (kept_of line)
      else answered_of (entry_in form line) (kept_of line)

-- ---- moments: a line answered as at the beginning of an order, where it leaves no trace

module _ (recorded : Recorded LabState) where
  -- the order of which a line asks
  abbrev pub order_asked : Kept → Option ℕ
  order_asked kept = if is_some recorded.state.opened then None else moment_asked kept

  -- a line answered there
  abbrev pub reply_there : RecordForm → Kept → ℕ → List ℕ
  reply_there form kept order =
      if nat_lt (orders_there recorded) order then not_yet_text (orders_there recorded)
      else reply_now (session_at recorded order) form (line_there kept.front)

  abbrev pub answered_there : RecordForm → Kept → ℕ → Answered
  answered_there form kept order =
      if nat_lt (orders_there recorded) order
      then record { is_refused = true; has_objects = false }
      else answered_now (session_at recorded order) form (line_there kept.front)

  -- ---- a line

  -- what it stands for, what is replied to it, and what that is beside its text
  unfoldable pub meaning_at : List ℕ → Meaning
  meaning_at line =
      if is_some (order_asked (kept_of line)) then Lines [] else meaning_now recorded line

  unfoldable pub reply_in : RecordForm → List ℕ → List ℕ
  reply_in form line =
      option_map_or (reply_there form (kept_of line)) (order_asked (kept_of line))
      (reply_now recorded form line)

  unfoldable pub answered_in : RecordForm → List ℕ → Answered
  answered_in form line =
      option_map_or (answered_there form (kept_of line)) (order_asked (kept_of line))
      (answered_now recorded form line)

  -- a line answered
  abbrev pub answer_in : RecordForm → List ℕ → Answer (Recorded LabState)
  answer_in form line = record {
    reply = reply_in form line;
    after = after_meaning script_language opening_state recorded (meaning_at line);
  }

-- ---- the language

abbrev pub monitor_language : Language (Recorded LabState)
monitor_language = record {
  reply = λ recorded line. reply_in recorded AsLines line;
  after = λ recorded line.
      after_meaning script_language opening_state recorded (meaning_at recorded line);
  closing = λ recorded. script_language.closing recorded.state;
}

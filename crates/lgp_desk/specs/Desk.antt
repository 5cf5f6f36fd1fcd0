-- Part of the public promise: the monitor at a desk, where lines are typed until `quit`: bare, after
-- prompts, or each shown above its reply. A line may name a file. The lines of a file count as if
-- they were typed there, and they may name files in turn, up to 16 within one another.
-- A desk reads nothing and writes nothing. It says what it wishes for, it is told what came of
-- that, and the text that is to be written then is a value.
use Rattle.std.specs.Prelude.{ℕ, ◌+◌, ◌-◌, ◌==◌, not, ◌&&◌, ◌||◌, Bool, true, false}
use Rattle.std.specs.Prelude.{if◌then◌else◌, is_none, is_some, nat_le, Option, Some, None}
use Rattle.std.specs.Prelude.{List, [], ◌∷◌, ◌++◌, codes, length, slice_get, take}
use Rattle.std.specs.Prelude.{Result, Ok, Err}
use Rattle.std.specs.List.{list_any}
use Rattle.std.specs.Option.{option_map_or}
use Rattle.std.specs.Str.{bytes_eq}
use Rattle.std.specs.Str.Lines.{lines}
use Rattle.lgp_word.specs.Digits.{address_digits}
use Rattle.lgp_flexo.specs.TapeText.{written_tape}
use Rattle.lgp_stream.specs.KeptLine.{kept_of}
use Rattle.lgp_stream.specs.Transcript.{IsLine, Recorded, untouched}
use Rattle.lgp_text.specs.PanelWords.{status_text}
use Rattle.lgp_script.specs.LabState.{LabState, opening_state}
use Rattle.lgp_monitor.specs.Closing.{is_faulty}
use Rattle.lgp_monitor.specs.FileTexts.{answer_to_dump, answer_to_tape, refuses_dump, refuses_tape}
use Rattle.lgp_fields.specs.declared.records.RecordForm.{RecordForm}
use Rattle.lgp_fields.specs.declared.records.RecordForm.TheVariants.{Lines, Objects}
use Rattle.lgp_monitor.specs.Monitor.{answered_in, monitor_language, panel_at, reply_in}
use Rattle.lgp_monitor.specs.declared.answered.Answered.{Answered}
use Rattle.lgp_desk.specs.FileForms.{dump_in, tape_of}
use Rattle.lgp_desk.specs.Json.{json_answer, json_own}
use Rattle.lgp_desk.specs.Requests.{is_quit, request_of}
use Rattle.lgp_desk.specs.Troubles.{kept_text, line_note, trouble_text}
use Rattle.lgp_desk.specs.declared.files.FileTrouble.{FileTrouble}
use Rattle.lgp_desk.specs.declared.files.FileTrouble.TheVariants as troubles
use Rattle.lgp_desk.specs.declared.request.DrumForm.{DrumForm}
use Rattle.lgp_desk.specs.declared.request.DrumForm.TheVariants as drums
use Rattle.lgp_desk.specs.declared.request.Work.{Work}
use Rattle.lgp_desk.specs.declared.request.Work.TheVariants as works
use Rattle.lgp_desk.specs.declared.wish.Wish.{Wish}
use Rattle.lgp_desk.specs.declared.wish.Wish.TheVariants as wishes
use Rattle.lgp_desk.specs.declared.writing.Manner.{Manner}
use Rattle.lgp_desk.specs.declared.writing.Manner.TheVariants.{Prompting, Echoing, Json}

-- a file whose lines are typed: its name, the number of the line that was typed last, counted from
-- 1, and the lines that are left
pub record Opened : Type 0 where
  pub name : List ℕ
  pub number : ℕ
  pub left : List (List ℕ)

-- a file that is wished for: what it is for, where the line comes from that names it, and its name
pub record Wanted : Type 0 where
  pub work : Work
  pub note : List ℕ
  pub name : List ℕ

-- the state of the monitor, how replies are written, the file whose lines are typed, those in which
-- it was named, the latest last, the file that is wished for, whether a reply was a refusal, and
-- whether `quit` was typed
pub record Seat : Type 0 where
  pub recorded : Recorded LabState
  pub manner : Manner
  pub inner : Option Opened
  pub outer : List Opened
  pub wanted : Option Wanted
  pub has_refused : Bool
  pub has_left : Bool

-- what the monitor is handed: a line, a dump, or the name and the text of a tape
pub data Handed : Type 0 where
  Line : List ℕ → Handed
  Dump : List ℕ → Handed
  Tape : List ℕ → List ℕ → Handed

-- the text that is to be written, what the monitor was handed for it, and the desk after it
pub record Said : Type 0 where
  pub text : List ℕ
  pub handed : List Handed
  pub seat : Seat

abbrev pub nothing : Seat → Said
nothing seat = record { text = []; handed = []; seat = seat }

abbrev pub and_then : Said → (Seat → Said) → Said
and_then first more = record {
  text = first.text ++ (more first.seat).text;
  handed = first.handed ++ (more first.seat).handed;
  seat = (more first.seat).seat;
}

-- a text is written, which is a refusal or not
abbrev pub marked : Seat → Bool → Seat
marked seat refused = record seat { has_refused = seat.has_refused || refused }

abbrev pub saying : List ℕ → Bool → List Handed → Seat → Said
saying text refused handed seat =
    record { text = text; handed = handed; seat = marked seat refused }

-- ---- what is written for a reply

-- what is answered in text alone, as a refusal or not
abbrev pub plainly : Bool → Answered
plainly refused = record { is_refused = refused; has_objects = false }

-- a line above its reply, after a question mark where it is refused; of a longer line its front, and
-- two points
unfoldable pub echo_of : Bool → List ℕ → Bool → List ℕ
echo_of refused front longer =
    (if refused then codes "? " else codes "> ")
    ++ (front ++ (if longer then codes " ..\n" else codes "\n"))

abbrev pub echo_in : Manner → List ℕ → List ℕ
echo_in Echoing echo = echo
echo_in manner echo = []

-- after a refusal, where its line comes from
unfoldable pub note_line : Bool → List ℕ → List ℕ
note_line refused note =
    if refused && not (length note == 0)
    then codes "        " ++ (note ++ codes "\n") else []

-- the prompt: that the line is a source's, or the counter, and the machine's state
unfoldable pub prompt_at : Recorded LabState → List ℕ
prompt_at recorded =
    let panel = panel_at recorded.state in
    if is_some recorded.state.opened then codes "source> "
    else address_digits panel.counter ++ (codes " " ++ (status_text panel.status ++ codes "> "))

abbrev pub prompt_in : Manner → List ℕ → List ℕ
prompt_in Prompting prompt = prompt
prompt_in manner prompt = []

-- for a line of which this is the front, and for a reply of the desk itself
abbrev pub written : Manner → List ℕ → Bool → List ℕ → Answered → List ℕ → List ℕ
written Json front longer note answer reply = json_answer front longer note answer reply
written manner front longer note answer reply =
    echo_in manner (echo_of answer.is_refused front longer)
    ++ (reply ++ note_line answer.is_refused note)

abbrev pub written_own : Manner → List ℕ → Bool → List ℕ → List ℕ
written_own Json note refused reply = json_own note refused reply
written_own manner note refused reply = reply ++ note_line refused note

-- what is written at the end, with a line feed in the place of a prompt
unfoldable pub written_last : Manner → Bool → List ℕ → List ℕ
written_last Json refused reply = if length reply == 0 then [] else json_own [] refused reply
written_last manner refused reply = reply ++ prompt_in manner (codes "\n")

-- where lines come from that a line names which comes from there itself
unfoldable pub within : List ℕ → List ℕ → List ℕ
within name note = if length note == 0 then name else name ++ (codes ", " ++ note)

-- ---- what is done, with the note that says where the line comes from

-- the form of replies for programs
abbrev pub form_in : Manner → RecordForm
form_in Json = Objects
form_in manner = Lines

-- a line that the monitor answers, and several
abbrev pub answered : List ℕ → Seat → List ℕ → Said
answered note seat line =
    let reply = reply_in seat.recorded (form_in seat.manner) line in
    let answer = answered_in seat.recorded (form_in seat.manner) line in
    saying (written seat.manner (kept_of line).front (kept_of line).longer note answer reply)
    answer.is_refused (Line line ∷ [])
    (record seat { recorded = monitor_language.after seat.recorded line })

abbrev pub all_answered : List ℕ → Seat → List (List ℕ) → Said
all_answered note seat [] = nothing seat
all_answered note seat (line ∷ more) =
    and_then (answered note seat line) (λ next. all_answered note next more)

-- a reply of the desk itself, which is a refusal or not
abbrev pub own : List ℕ → Seat → Bool → List ℕ → Said
own note seat refused reply =
    saying (written_own seat.manner note refused reply) refused [] seat

abbrev pub refused : List ℕ → Seat → List ℕ → FileTrouble → Said
refused note seat name trouble = own note seat true (trouble_text name trouble)

-- the words of a dump are put on the drum, by a line that has this word
abbrev pub restore_word : DrumForm → List ℕ
restore_word drums.Dump = codes "restore "
restore_word drums.Simh = codes "restore-simh "

unfoldable pub restored : DrumForm → List ℕ → Seat → List ℕ → List ℕ → Said
restored form note seat name dump =
    let answer = answer_to_dump seat.recorded dump in
    let is_refused = refuses_dump seat.recorded dump in
    saying (written seat.manner (restore_word form ++ name) false (within name note)
    (plainly is_refused) answer.reply)
    is_refused (Dump dump ∷ []) (record seat { recorded = answer.after })

-- how many bytes of a tape's text a line has room for, after `mount` and its space
abbrev pub mount_limit : ℕ
mount_limit = 4090

-- a tape is mounted by a line, where one has room for its text
unfoldable pub long_tape : List ℕ → Seat → List ℕ → List ℕ → Said
long_tape note seat name text =
    let answer = answer_to_tape seat.recorded name text in
    let is_refused = refuses_tape seat.recorded text in
    saying (written seat.manner (codes "tape " ++ name) false (within name note)
    (plainly is_refused) answer.reply)
    is_refused (Tape name text ∷ []) (record seat { recorded = answer.after })

unfoldable pub mounted : List ℕ → Seat → List ℕ → List ℕ → Said
mounted note seat name text =
    if nat_le (length text) mount_limit
    then answered (within name note) seat (codes "mount " ++ text)
    else long_tape note seat name text

abbrev pub tape_or_refused : List ℕ → Seat → List ℕ → Result (List ℕ) FileTrouble → Said
tape_or_refused note seat name (Ok tape) = mounted note seat name (written_tape tape)
tape_or_refused note seat name (Err trouble) = refused note seat name trouble

abbrev pub restored_or_refused : DrumForm → List ℕ → Seat → List ℕ
    → Result (List ℕ) FileTrouble → Said
restored_or_refused form note seat name (Ok dump) = restored form note seat name dump
restored_or_refused form note seat name (Err trouble) = refused note seat name trouble

-- a source is taken line by line, where none of its lines would end it
unfoldable pub source_said : List ℕ → Seat → List ℕ → List ℕ → Said
source_said note seat name text =
    if list_any (λ line. bytes_eq line (codes ".")) (lines text)
    then refused note seat name troubles.HasPoint
    else all_answered (within name note) seat (codes "source" ∷ (lines text ++ codes "." ∷ []))

-- the lines of a file are typed from now on
abbrev pub with_file : Seat → List ℕ → List ℕ → Seat
with_file seat name text = record seat {
  inner = Some (record { name = name; number = 0; left = lines text });
  outer = option_map_or (λ file. seat.outer ++ file ∷ []) seat.inner seat.outer;
}

-- the file whose lines are typed has none left
abbrev pub without_file : Seat → Seat
without_file seat = record seat {
  inner = slice_get seat.outer (length seat.outer - 1);
  outer = take (length seat.outer - 1) seat.outer;
}

-- a text of a file, used as its work says
abbrev pub used : Work → List ℕ → Seat → List ℕ → List ℕ → Said
used works.Lines note seat name text = nothing (with_file seat name text)
used works.Source note seat name text = source_said note seat name text
used (works.Tape form) note seat name text = tape_or_refused note seat name (tape_of form text)
used (works.Restore form) note seat name text =
    restored_or_refused form note seat name (dump_in form text)
used (works.Keep made) note seat name text = nothing seat

abbrev pub used_or_refused : Work → List ℕ → Seat → List ℕ → Result (List ℕ) FileTrouble → Said
used_or_refused work note seat name (Ok text) = used work note seat name text
used_or_refused work note seat name (Err trouble) = refused note seat name trouble

-- something was kept under a name, or could not be
abbrev pub kept_or_refused : List ℕ → Seat → List ℕ → Bool → Said
kept_or_refused note seat name true = own note seat false (kept_text name)
kept_or_refused note seat name false = refused note seat name troubles.NotWritten

-- ---- a line

-- where a line comes from: nothing is said of one that is typed
abbrev pub note_at : Seat → List ℕ
note_at seat = option_map_or (λ file. line_note file.number file.name) seat.inner []

-- whether as many files are open as can be, each named in the one before
abbrev pub is_deep : Seat → Bool
is_deep seat = is_some seat.inner && nat_le 15 (length seat.outer)

-- a line names a file
abbrev pub wanting : Work → List ℕ → Seat → List ℕ → Said
wanting work note seat name =
    nothing (record seat { wanted = Some (record { work = work; note = note; name = name }) })

abbrev pub asked : Work → List ℕ → Seat → List ℕ → Said
asked works.Lines note seat name =
    if is_deep seat then refused note seat name troubles.TooDeep
    else wanting works.Lines note seat name
asked work note seat name = wanting work note seat name

-- a line leaves the desk, and all files
abbrev pub left_by : Seat → List ℕ → Said
left_by seat line = record {
  text = echo_in seat.manner (echo_of false (kept_of line).front (kept_of line).longer);
  handed = [];
  seat = record seat { inner = None; outer = []; has_left = true };
}

-- a line where no source is open
abbrev pub command_said : List ℕ → Seat → List ℕ → Said
command_said note seat line =
    if is_quit (kept_of line) then left_by seat line
    else (if (kept_of line).longer then answered note seat line
    else option_map_or (λ request. asked request.0 note seat request.1)
    (request_of (kept_of line).front) (answered note seat line))

-- a line that is typed, or one of the file whose lines are; in an open source each is the source's
abbrev pub line_said : Seat → List ℕ → Said
line_said seat line =
    if is_none seat.recorded.state.opened then command_said (note_at seat) seat line
    else answered (note_at seat) seat line

-- ---- the desk

-- a desk at which nothing was typed
abbrev pub taken_seat : Manner → Seat
taken_seat manner = record {
  recorded = untouched opening_state;
  manner = manner;
  inner = None;
  outer = [];
  wanted = None;
  has_refused = false;
  has_left = false;
}

-- what it wishes for
abbrev pub file_wish : Work → Wish
file_wish (works.Keep made) = wishes.Keep made
file_wish work = wishes.Read

abbrev pub line_wish : Seat → Wish
line_wish seat =
    if is_some seat.inner then wishes.Onward
    else (if seat.has_left then wishes.Nothing else wishes.Line)

unfoldable pub wish_at : Seat → Wish
wish_at seat = option_map_or (λ wanted. file_wish wanted.work) seat.wanted (line_wish seat)

-- what it is told: a line that is typed; the name of a file whose lines come before those that are
-- typed; to go on with the lines of a file; what the file holds that it wished for, or why it is
-- refused; and whether what it wished to keep is kept
pub data Told : Type 0 where
  Typed : List ℕ → Told
  First : List ℕ → Told
  Onward : Told
  Found : Result (List ℕ) FileTrouble → Told
  Kept : Bool → Told

abbrev pub first_named : Seat → List ℕ → Said
first_named seat name = wanting works.Lines (codes "named on the command line") seat name

abbrev pub next_said : Seat → Opened → List (List ℕ) → Said
next_said seat file [] = nothing (without_file seat)
next_said seat file (line ∷ more) =
    let next = record file { number = file.number + 1; left = more } in
    line_said (record seat { inner = Some next }) line

abbrev pub onward_said : Seat → Option Opened → Said
onward_said seat (Some file) = next_said seat file file.left
onward_said seat None = nothing seat

-- whether something is to be kept in a file
abbrev pub is_keep : Work → Bool
is_keep (works.Keep made) = true
is_keep work = false

abbrev pub found_said : Seat → Option Wanted → Result (List ℕ) FileTrouble → Said
found_said seat (Some wanted) read =
    if is_keep wanted.work then nothing seat
    else used_or_refused wanted.work wanted.note (record seat { wanted = None }) wanted.name read
found_said seat None read = nothing seat

abbrev pub kept_said : Seat → Option Wanted → Bool → Said
kept_said seat (Some wanted) kept =
    if is_keep wanted.work
    then kept_or_refused wanted.note (record seat { wanted = None }) wanted.name kept
    else nothing seat
kept_said seat None kept = nothing seat

-- whether a line can be typed
abbrev pub takes_lines : Seat → Bool
takes_lines seat = is_none seat.wanted && (is_none seat.inner && not seat.has_left)

-- what it says then; what it has not wished for changes nothing
unfoldable pub said_to : Seat → Told → Said
said_to seat (Typed line) = if takes_lines seat then line_said seat line else nothing seat
said_to seat (First name) = if takes_lines seat then first_named seat name else nothing seat
said_to seat Onward = if is_some seat.wanted then nothing seat else onward_said seat seat.inner
said_to seat (Found read) = found_said seat seat.wanted read
said_to seat (Kept kept) = kept_said seat seat.wanted kept

-- what it says where no line is typed any more; then nothing more is to be told it
unfoldable pub closing_text : Seat → List ℕ
closing_text seat =
    if takes_lines seat then written_last seat.manner (is_faulty seat.recorded.state.opened)
    (monitor_language.closing seat.recorded)
    else []

-- whether that is a refusal: of a source that was left open
abbrev pub closing_refuses : Seat → Bool
closing_refuses seat = takes_lines seat && is_faulty seat.recorded.state.opened

-- what it says to all that it is told, one after another
abbrev pub all_said : Seat → List Told → Said
all_said seat [] = nothing seat
all_said seat (told ∷ more) = and_then (said_to seat told) (λ next. all_said next more)

-- a typed line is one: it has no line feed
abbrev pub IsTyped : Told → Type 0
IsTyped (Typed line) = IsLine line
IsTyped told = Unit {0}

-- what a script can say: each line, and each dump; of a tape for whose text no line has room, the
-- transcript has the name alone
abbrev pub IsSayable : Handed → Type 0
IsSayable (Line line) = Unit {0}
IsSayable (Dump dump) = Unit {0}
IsSayable (Tape name text) = ⊥

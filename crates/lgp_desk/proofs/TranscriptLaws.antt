-- What a session hands over, as the transcript says it.
use Rattle.std.proofs.Common.{◌≡◌, ℕ, zero, suc, ◌+◌, ◌-◌, ◌/◌, ◌%◌, ◌==◌, Bool, true, false, cond, nat_le, is_none, is_some, Option, Some, None, Result, Ok, Err, List, [], ◌∷◌, ◌++◌, codes, length, refl, arith}
use Rattle.std.specs.List.{AllByRecursion, list_any}
use Rattle.std.specs.Option.{option_map_or}
use Rattle.std.specs.Prelude.{slice_get, take}
use Rattle.std.specs.Str.{bytes_eq}
use Rattle.std.specs.Str.Lines.{lines}
use Rattle.std.proofs.lemmas.Bool.Decides.{nat_tests}
use Rattle.lgp_word.specs.Digits.{digits}
use Rattle.lgp_word.specs.Order.{letters}
use Rattle.lgp_flexo.specs.Code.{is_stop, other_signs, sign_at, stop_sign}
use Rattle.lgp_flexo.specs.TapeText.{sign_or_group, written_code, written_tape}
use Rattle.lgp_stream.specs.KeptLine.{kept_of}
use Rattle.lgp_stream.specs.Language.{is_line_feed}
use Rattle.lgp_stream.specs.Transcript.{IsLine, IsReportedByTranscript, after_lines}
use Rattle.lgp_stream.proofs.LineLaws.{IsReported, IsReported-all, IsReported-lines, IsReported-meaning, IsReported-none, lines_are_lines}
use Rattle.lgp_script.specs.Script.{script_language}
use Rattle.lgp_script.specs.LabState.{opening_state}
use Rattle.lgp_monitor.specs.FileTexts.{restore_lines}
use Rattle.lgp_monitor.specs.Monitor.{meaning_at}
use Rattle.lgp_monitor.proofs.LineLemmas.{free-at}
use Rattle.lgp_monitor.proofs.RestoreLemmas.{free-restored}
use Rattle.lgp_desk.specs.Desk.{First, Found, Handed, IsSayable, IsTyped, Kept, Onward, Opened, Said, Seat, Told, Typed, Wanted, all_answered, all_said, and_then, answered, asked, first_named, found_said, is_deep, is_keep, kept_or_refused, kept_said, left_by, line_said, long_tape, mounted, mount_limit, next_said, nothing, note_at, onward_said, refused, restored, restored_or_refused, said_to, source_said, taken_seat, tape_or_refused, used, takes_lines, used_or_refused, wanting, within}
use Rattle.lgp_desk.specs.FileForms.{dump_in, tape_of}
use Rattle.lgp_desk.specs.Requests.{is_quit, request_of}
use Rattle.lgp_desk.specs.declared.files.FileTrouble.{FileTrouble}
use Rattle.lgp_desk.specs.declared.files.FileTrouble.TheVariants as troubles
use Rattle.lgp_desk.specs.declared.request.DrumForm.{DrumForm}
use Rattle.lgp_desk.specs.declared.request.Work.{Work}
use Rattle.lgp_desk.specs.declared.request.Work.TheVariants as works
use Rattle.lgp_desk.specs.declared.writing.Manner.{Manner}

-- ---- a tape's text is a line

free-append : (xs ys : List ℕ) → IsLine xs → IsLine ys → IsLine (xs ++ ys)
free-append [] ys free more = more
free-append (x ∷ xs) ys free more = (free.0, free-append xs ys free.1 more)

abbrev IsFreeSign : Option ℕ → Type 0
IsFreeSign (Some sign) = is_line_feed sign ≡ false
IsFreeSign None = Unit {0}

free-item : (xs : List ℕ) (i : ℕ) → IsLine xs → IsFreeSign (slice_get xs i)
free-item [] i free = tt
free-item (x ∷ xs) zero free = free.0
free-item (x ∷ xs) (suc i) free = free-item xs i free.1

letters_are_free : IsLine letters
letters_are_free = grind arith

digits_are_free : IsLine digits
digits_are_free = grind arith

others_are_free : IsLine other_signs
others_are_free = grind arith

free-sign : (code : ℕ) → IsFreeSign (sign_at code)
unfolding sign_at
free-sign code = by_tests (is_stop code) (code % 4 == 1) (code % 4 == 2) (code % 4 == 3) where
  by_tests : (stop one two three : Bool)
      → IsFreeSign (cond stop (Some stop_sign) (cond one (slice_get letters (code / 4)) (cond two (slice_get digits (code / 4)) (cond three (slice_get other_signs (code / 4)) None))))
  by_tests true one two three = refl
  by_tests false true two three = free-item letters (code / 4) letters_are_free
  by_tests false false true three = free-item digits (code / 4) digits_are_free
  by_tests false false false true = free-item other_signs (code / 4) others_are_free
  by_tests false false false false = tt

free-decimal : (value : ℕ) → is_line_feed (48 + value) ≡ false
free-decimal value = grind (arith, nat_tests)

free-code : (code : ℕ) → IsLine (written_code code)
free-code code = by_sign (sign_at code) (free-sign code) where
  by_sign : (sign : Option ℕ) → IsFreeSign sign → IsLine (sign_or_group sign code)
  by_sign (Some sign) free = (free, tt)
  by_sign None free = (refl, (free-decimal (code / 10), (free-decimal (code % 10), (refl, tt))))

free-tape : (tape : List ℕ) → IsLine (written_tape tape)
free-tape [] = tt
free-tape (code ∷ more) = free-append (written_code code) (written_tape more) (free-code code) (free-tape more)

-- ---- files whose lines are typed have lines

abbrev pub IsFreeFile : Opened → Type 0
IsFreeFile file = AllByRecursion IsLine file.left

abbrev pub IsFreeInner : Option Opened → Type 0
IsFreeInner (Some file) = IsFreeFile file
IsFreeInner None = Unit {0}

abbrev pub AreFreeFiles : List Opened → Type 0
AreFreeFiles files = AllByRecursion IsFreeFile files

files-append : (files : List Opened) (file : Opened) → AreFreeFiles files → IsFreeFile file → AreFreeFiles (files ++ file ∷ [])
files-append [] file free last = (last, tt)
files-append (first ∷ more) file free last = (free.0, files-append more file free.1 last)

files-get : (files : List Opened) (i : ℕ) → AreFreeFiles files → IsFreeInner (slice_get files i)
files-get [] i free = tt
files-get (first ∷ more) zero free = free.0
files-get (first ∷ more) (suc i) free = files-get more i free.1

files-take : (n : ℕ) (files : List Opened) → AreFreeFiles files → AreFreeFiles (take n files)
files-take zero files free = tt
files-take (suc n) [] free = tt
files-take (suc n) (first ∷ more) free = (free.0, files-take n more free.1)

files-open : (inner : Option Opened) (outer : List Opened) → IsFreeInner inner → AreFreeFiles outer → AreFreeFiles (option_map_or (λ (file : Opened). outer ++ file ∷ []) inner outer)
files-open (Some file) outer free files = files-append outer file files free
files-open None outer free files = files

-- ---- what was reported so far, and what is said then

abbrev pub IsReported-at : Seat → Type 0
IsReported-at seat =
    IsReported script_language opening_state seat.recorded.state seat.recorded.transcript
    × IsFreeInner seat.inner × AreFreeFiles seat.outer

abbrev pub AreSayable : List Handed → Type 0
AreSayable items = AllByRecursion IsSayable items

-- it is reported after what is said, where that can be said by a script
abbrev pub IsReportedAfter : Said → Type 0
IsReportedAfter what = AreSayable what.handed → IsReported-at what.seat

first-sayable : (xs ys : List Handed) → AreSayable (xs ++ ys) → AreSayable xs
first-sayable [] ys all = tt
first-sayable (x ∷ xs) ys all = (all.0, first-sayable xs ys all.1)

rest-sayable : (xs ys : List Handed) → AreSayable (xs ++ ys) → AreSayable ys
rest-sayable [] ys all = all
rest-sayable (x ∷ xs) ys all = rest-sayable xs ys all.1

reported-then : (first : Said) (more : Seat → Said) → IsReportedAfter first → ((seat : Seat) → IsReported-at seat → IsReportedAfter (more seat)) → IsReportedAfter (and_then first more)
reported-then first more one rest all =
    rest first.seat (one (first-sayable first.handed (more first.seat).handed all)) (rest-sayable first.handed (more first.seat).handed all)

reported-answered : (note : List ℕ) (seat : Seat) (line : List ℕ) → IsLine line → IsReported-at seat → IsReportedAfter (answered note seat line)
reported-answered note seat line free reported all =
    (IsReported-meaning script_language opening_state seat.recorded (meaning_at seat.recorded line) reported.0 (free-at seat.recorded line free), reported.1, reported.2)

reported-all : (note : List ℕ) (seat : Seat) (lines : List (List ℕ)) → AllByRecursion IsLine lines → IsReported-at seat → IsReportedAfter (all_answered note seat lines)
reported-all note seat [] free reported = λ all. reported
reported-all note seat (line ∷ more) free reported =
    reported-then (answered note seat line) (λ next. all_answered note next more) (reported-answered note seat line free.0 reported)
    (λ next reported-next. reported-all note next more free.1 reported-next)

reported-restored : (form : DrumForm) (note : List ℕ) (seat : Seat) (name dump : List ℕ) → IsReported-at seat → IsReportedAfter (restored form note seat name dump)
unfolding restored after_lines
reported-restored form note seat name dump reported all =
    (IsReported-lines script_language opening_state seat.recorded.state seat.recorded.transcript (restore_lines seat.recorded dump) reported.0 (free-restored seat.recorded dump), reported.1, reported.2)

reported-mounted : (note : List ℕ) (seat : Seat) (name text : List ℕ) → IsLine text → IsReported-at seat → IsReportedAfter (mounted note seat name text)
unfolding mounted long_tape
reported-mounted note seat name text free reported = by_room (nat_le (length text) mount_limit) where
  by_room : (has_room : Bool) → IsReportedAfter (cond has_room (answered (within name note) seat (codes "mount " ++ text)) (long_tape note seat name text))
  by_room true = reported-answered (within name note) seat (codes "mount " ++ text) (free-append (codes "mount ") text (grind arith) free) reported
  by_room false = λ all. absurd all.0

reported-tape : (note : List ℕ) (seat : Seat) (name : List ℕ) (tape : Result (List ℕ) FileTrouble) → IsReported-at seat → IsReportedAfter (tape_or_refused note seat name tape)
reported-tape note seat name (Ok tape) reported = reported-mounted note seat name (written_tape tape) (free-tape tape) reported
reported-tape note seat name (Err trouble) reported = λ all. reported

reported-drum : (form : DrumForm) (note : List ℕ) (seat : Seat) (name : List ℕ) (dump : Result (List ℕ) FileTrouble) → IsReported-at seat → IsReportedAfter (restored_or_refused form note seat name dump)
reported-drum form note seat name (Ok dump) reported = reported-restored form note seat name dump reported
reported-drum form note seat name (Err trouble) reported = λ all. reported

free-ended : (lines : List (List ℕ)) (line : List ℕ) → AllByRecursion IsLine lines → IsLine line → AllByRecursion IsLine (lines ++ line ∷ [])
free-ended [] line free last = (last, tt)
free-ended (first ∷ more) line free last = (free.0, free-ended more line free.1 last)

reported-source : (note : List ℕ) (seat : Seat) (name text : List ℕ) → IsReported-at seat → IsReportedAfter (source_said note seat name text)
unfolding source_said
reported-source note seat name text reported = by_point (list_any (λ line. bytes_eq line (codes ".")) (lines text)) where
  by_point : (has_point : Bool) → IsReportedAfter (cond has_point (refused note seat name troubles.HasPoint) (all_answered (within name note) seat (codes "source" ∷ (lines text ++ codes "." ∷ []))))
  by_point true = λ all. reported
  by_point false = reported-all (within name note) seat (codes "source" ∷ (lines text ++ codes "." ∷ [])) (grind arith, free-ended (lines text) (codes ".") (lines_are_lines text) (refl, tt)) reported

reported-used : (work : Work) (note : List ℕ) (seat : Seat) (name text : List ℕ) → IsReported-at seat → IsReportedAfter (used work note seat name text)
reported-used works.Source note seat name text reported = reported-source note seat name text reported
reported-used (works.Tape form) note seat name text reported = reported-tape note seat name (tape_of form text) reported
reported-used (works.Restore form) note seat name text reported = reported-drum form note seat name (dump_in form text) reported
reported-used works.Lines note seat name text reported = λ all. (reported.0, lines_are_lines text, files-open seat.inner seat.outer reported.1 reported.2)
reported-used (works.Keep made) note seat name text reported = λ all. reported

reported-file : (work : Work) (note : List ℕ) (seat : Seat) (name : List ℕ) (text : Result (List ℕ) FileTrouble) → IsReported-at seat → IsReportedAfter (used_or_refused work note seat name text)
reported-file work note seat name (Ok text) reported = reported-used work note seat name text reported
reported-file work note seat name (Err trouble) reported = λ all. reported

reported-kept : (note : List ℕ) (seat : Seat) (name : List ℕ) (kept : Bool) → IsReported-at seat → IsReportedAfter (kept_or_refused note seat name kept)
reported-kept note seat name true reported = λ all. reported
reported-kept note seat name false reported = λ all. reported

-- ---- a line

reported-asked : (work : Work) (note : List ℕ) (seat : Seat) (name : List ℕ) → IsReported-at seat → IsReportedAfter (asked work note seat name)
reported-asked works.Lines note seat name reported = by_depth (is_deep seat) where
  by_depth : (deep : Bool) → IsReportedAfter (cond deep (refused note seat name troubles.TooDeep) (wanting works.Lines note seat name))
  by_depth true = λ all. reported
  by_depth false = λ all. reported
reported-asked works.Source note seat name reported = λ all. reported
reported-asked (works.Tape form) note seat name reported = λ all. reported
reported-asked (works.Restore form) note seat name reported = λ all. reported
reported-asked (works.Keep made) note seat name reported = λ all. reported

reported-line : (seat : Seat) (line : List ℕ) → IsLine line → IsReported-at seat → IsReportedAfter (line_said seat line)
reported-line seat line free reported = by_role (is_none seat.recorded.state.opened) (is_quit (kept_of line)) (kept_of line).longer (request_of (kept_of line).front) where
  note : List ℕ
  note = note_at seat

  answer : IsReportedAfter (answered note seat line)
  answer = reported-answered note seat line free reported

  by_request : (request : Option (Work × List ℕ)) → IsReportedAfter (option_map_or (λ (it : Work × List ℕ). asked it.0 note seat it.1) request (answered note seat line))
  by_request None = answer
  by_request (Some request) = reported-asked request.0 note seat request.1 reported

  by_role : (commands quit longer : Bool) (request : Option (Work × List ℕ))
      → IsReportedAfter (cond commands (cond quit (left_by seat line) (cond longer (answered note seat line) (option_map_or (λ (it : Work × List ℕ). asked it.0 note seat it.1) request (answered note seat line)))) (answered note seat line))
  by_role false quit longer request = answer
  by_role true true longer request = λ all. (reported.0, tt, tt)
  by_role true false true request = answer
  by_role true false false request = by_request request

-- ---- whatever a desk is told

reported-next : (seat : Seat) (file : Opened) (left : List (List ℕ)) → AllByRecursion IsLine left → IsReported-at seat → IsReportedAfter (next_said seat file left)
reported-next seat file [] free reported = λ all. (reported.0, files-get seat.outer (length seat.outer - 1) reported.2, files-take (length seat.outer - 1) seat.outer reported.2)
reported-next seat file (line ∷ more) free reported =
    let next : Opened = record file { number = file.number + 1; left = more } in
    reported-line (record seat { inner = Some next }) line free.0 (reported.0, free.1, reported.2)

reported-onward : (seat : Seat) (inner : Option Opened) → IsFreeInner inner → IsReported-at seat → IsReportedAfter (onward_said seat inner)
reported-onward seat (Some file) free reported = reported-next seat file file.left free reported
reported-onward seat None free reported = λ all. reported

reported-found : (seat : Seat) (wanted : Option Wanted) (read : Result (List ℕ) FileTrouble) → IsReported-at seat → IsReportedAfter (found_said seat wanted read)
reported-found seat (Some wanted) read reported = by_work (is_keep wanted.work) where
  by_work : (keep : Bool) → IsReportedAfter (cond keep (nothing seat) (used_or_refused wanted.work wanted.note (record seat { wanted = None }) wanted.name read))
  by_work true = λ all. reported
  by_work false = reported-file wanted.work wanted.note (record seat { wanted = None }) wanted.name read reported
reported-found seat None read reported = λ all. reported

reported-kept_said : (seat : Seat) (wanted : Option Wanted) (kept : Bool) → IsReported-at seat → IsReportedAfter (kept_said seat wanted kept)
reported-kept_said seat (Some wanted) kept reported = by_work (is_keep wanted.work) where
  by_work : (keep : Bool) → IsReportedAfter (cond keep (kept_or_refused wanted.note (record seat { wanted = None }) wanted.name kept) (nothing seat))
  by_work true = reported-kept wanted.note (record seat { wanted = None }) wanted.name kept reported
  by_work false = λ all. reported
reported-kept_said seat None kept reported = λ all. reported

pub reported-told : (seat : Seat) (told : Told) → IsTyped told → IsReported-at seat → IsReportedAfter (said_to seat told)
unfolding said_to
reported-told seat (Typed line) free reported = by_role (takes_lines seat) where
  by_role : (takes : Bool) → IsReportedAfter (cond takes (line_said seat line) (nothing seat))
  by_role true = reported-line seat line free reported
  by_role false = λ all. reported
reported-told seat (First name) free reported = by_role (takes_lines seat) where
  by_role : (takes : Bool) → IsReportedAfter (cond takes (first_named seat name) (nothing seat))
  by_role true = λ all. reported
  by_role false = λ all. reported
reported-told seat Onward free reported = by_role (is_some seat.wanted) where
  by_role : (waits : Bool) → IsReportedAfter (cond waits (nothing seat) (onward_said seat seat.inner))
  by_role true = λ all. reported
  by_role false = reported-onward seat seat.inner reported.1 reported
reported-told seat (Found read) free reported = reported-found seat seat.wanted read reported
reported-told seat (Kept kept) free reported = reported-kept_said seat seat.wanted kept reported

reported-all_told : (seat : Seat) (told : List Told) → AllByRecursion IsTyped told → IsReported-at seat → IsReportedAfter (all_said seat told)
reported-all_told seat [] free reported = λ all. reported
reported-all_told seat (first ∷ more) free reported =
    reported-then (said_to seat first) (λ next. all_said next more) (reported-told seat first free.0 reported)
    (λ next reported-next. reported-all_told next more free.1 reported-next)

pub reported_in_session : (manner : Manner) (told : List Told) → AllByRecursion IsTyped told → AllByRecursion IsSayable (all_said (taken_seat manner) told).handed
    → IsReportedByTranscript script_language opening_state (all_said (taken_seat manner) told).seat.recorded
reported_in_session manner told typed all =
    IsReported-all script_language opening_state (all_said (taken_seat manner) told).seat.recorded
    (reported-all_told (taken_seat manner) told typed (IsReported-none script_language opening_state, tt, tt) all).0

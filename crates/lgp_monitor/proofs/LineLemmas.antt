-- What typed lines stand for are lines, so that a transcript's lines are those.
use Rattle.std.proofs.Common.{◌≡◌, ℕ, zero, suc, ◌-◌, ◌==◌, ◌&&◌, not, nat_lt, Option, Some, None, Bool, true, false, cond, is_some, List, [], ◌∷◌, ◌++◌, take, drop, get_or, refl, codes, arith}
use Rattle.std.specs.List.{AllByRecursion, list_all}
use Rattle.std.specs.Str.Lines.{lines}
use Rattle.lgp_word.specs.Digits.{digit_byte, digits, digits_of, four_digits}
use Rattle.lgp_stream.specs.KeptLine.{kept_of, line_limit}
use Rattle.lgp_stream.specs.Language.{is_line_feed, state_after}
use Rattle.lgp_stream.specs.LineWords.{after_word, without_spaces}
use Rattle.lgp_stream.specs.Transcript.{AreLines, IsLine, Lines, IsReportedByTranscript, Recorded, stand_in, untouched}
use Rattle.lgp_stream.proofs.LineLaws.{lines_are_lines, reported_by_transcript}
use Rattle.lgp_moment.specs.Moment.{after_kept, first_orders, lines_to, orders_in}
use Rattle.lgp_monitor.specs.Ways.{meaning_at_order, order_of_way}
use Rattle.lgp_script.specs.Script.{script_language}
use Rattle.lgp_script.specs.LabState.{LabState, opening_state}
use Rattle.lgp_command.specs.Command.{text_after_word}
use Rattle.lgp_command.specs.CommandText.{command_text}
use Rattle.lgp_command.specs.declared.command.Command.TheVariants as commands
use Rattle.lgp_command.proofs.CommandLines.{one_line}
use Rattle.lgp_script.specs.HistoryCommands.{replied_to_run}
use Rattle.lgp_script.specs.Reply.{Replied}
use Rattle.lgp_table.specs.declared.action.Action.TheVariants as actions
use Rattle.lgp_word.specs.Order.{plain_order}
use Rattle.lgp_word.specs.declared.order.Op.TheVariants.{U}
use Rattle.lgp_monitor.specs.Monitor.{entry_at, go_lines, meaning_at, meaning_now, meaning_of, monitor_language, order_asked}
use Rattle.lgp_monitor.specs.Untils.{orders_done}
use Rattle.lgp_monitor.specs.Operating.{Operated, ended_with, once_more, operated, operated_on, run_again, run_line, waits_for_typewriter}
use Rattle.lgp_monitor.specs.declared.entry.Entry.{Entry}
use Rattle.lgp_monitor.specs.declared.entry.Entry.TheVariants as entry

free-append : (xs ys : List ℕ) → IsLine xs → IsLine ys → IsLine (xs ++ ys)
free-append [] ys free more = more
free-append (x ∷ xs) ys free more = (free.0, free-append xs ys free.1 more)

free-take : (n : ℕ) (line : List ℕ) → IsLine line → IsLine (take n line)
free-take zero line free = tt
free-take (suc n) [] free = tt
free-take (suc n) (b ∷ line) free = (free.0, free-take n _ free.1)

free-drop : (n : ℕ) (line : List ℕ) → IsLine line → IsLine (drop n line)
free-drop zero line free = free
free-drop (suc n) [] free = tt
free-drop (suc n) (b ∷ line) free = free-drop n _ free.1

-- an element of a list that has no line feed, and what is there past its end
free-digit : (xs : List ℕ) (i : ℕ) → IsLine xs → is_line_feed (get_or xs i 0) ≡ false
free-digit [] i free = refl
free-digit (x ∷ xs) zero free = free.0
free-digit (x ∷ xs) (suc i) free = free-digit xs i free.1

digits_are_free : IsLine digits
digits_are_free = grind arith

free-byte : (value : ℕ) → is_line_feed (digit_byte value) ≡ false
unfolding digit_byte
free-byte value = free-digit digits value digits_are_free

free-four : (number : ℕ) → IsLine (four_digits number)
unfolding four_digits
free-four number = grind (arith, free-byte)

free-digits : (bits : ℕ) → IsLine (digits_of bits)
unfolding digits_of
free-digits bits = grind (arith, free-append, free-four)

pub free-put : (address word : ℕ) → IsLine (command_text (commands.Put address word) [])
free-put address word = one_line (commands.Put address word) [] tt

free-jump : (address : ℕ) → IsLine (codes "type " ++ digits_of (plain_order U address))
free-jump address = (refl, (refl, (refl, (refl, (refl, free-digits _)))))

-- fixed lines are checked by computing
checked : (line : List ℕ) → list_all (λ b. not (is_line_feed b)) line ≡ true → IsLine line
checked [] all = tt
checked (b ∷ line) all = both (is_line_feed b) refl all (λ rest. checked line rest) where
  both : (feed : Bool) → is_line_feed b ≡ feed → (not feed && list_all (λ b. not (is_line_feed b)) line) ≡ true → (list_all (λ b. not (is_line_feed b)) line ≡ true → IsLine line) → IsLine (b ∷ line)
  both false e all more = (e, more all)
  both true e all more = absurd (false-true all) where
    false-true : false ≡ true → ⊥
    false-true e = cc

free-go : (address : ℕ) → AllByRecursion IsLine (go_lines address)
unfolding go_lines
free-go address = (checked (codes "press manual") refl, (free-jump _, (checked (codes "press fill") refl, (checked (codes "press oneop") refl, (checked (codes "press execute") refl, (checked (codes "orders 1") refl, (checked (codes "press normal") refl, (checked (codes "press start") refl, tt))))))))

free-stand_in : (line : List ℕ) → IsLine line → IsLine (stand_in (kept_of line))
unfolding stand_in kept_of
free-stand_in line free = by_longer _ _ where
  by_longer : (longer blank : Bool) → IsLine (cond longer (take line_limit line ++ cond blank 32 46 ∷ []) (take line_limit line))
  by_longer true true = free-append _ _ (free-take line_limit line free) (refl, tt)
  by_longer true false = free-append _ _ (free-take line_limit line free) (refl, tt)
  by_longer false blank = free-take line_limit _ free

free-without : (line : List ℕ) → IsLine line → IsLine (without_spaces line)
unfolding without_spaces
free-without line free = free-drop _ _ free

free-after : (line : List ℕ) → IsLine line → IsLine (after_word line)
unfolding after_word
free-after line free = grind (arith, free-drop, free-without)

free-front : (line : List ℕ) → IsLine line → IsLine (kept_of line).front
unfolding kept_of
free-front line free = free-take line_limit _ free

free-text : (line : List ℕ) → IsLine line → IsLine (text_after_word (kept_of line).front)
unfolding text_after_word
free-text line free = free-drop 1 _ (free-after _ (free-front line free))

free-run : (limit : ℕ) → IsLine (run_line limit)
unfolding run_line
free-run limit = one_line (commands.Run limit) [] tt

free-operated_on : (limit starts : ℕ) (ran : Replied) → AllByRecursion IsLine (operated_on limit starts ran).lines
free-operated_on limit zero ran = tt
free-operated_on limit (suc starts) ran =
    by_test (waits_for_typewriter ran.after) (operated_on limit starts (run_again limit ran.after)) (free-operated_on limit starts (run_again limit ran.after)) where
      by_test : (waits : Bool) (more : Operated) → AllByRecursion IsLine more.lines → AllByRecursion IsLine (cond waits (once_more limit more) (ended_with ran)).lines
      by_test true more later = (one_line (commands.Press actions.Start) [] tt, (free-run limit, later))
      by_test false more later = tt

free-operated : (limit : ℕ) (lab : LabState) → AllByRecursion IsLine (operated limit lab).lines
unfolding operated
free-operated limit lab = (free-run limit, free-operated_on limit limit (replied_to_run lab limit))

-- the lines that lead to an order
free-first : (order : ℕ) → AllByRecursion IsLine (first_orders order)
free-first order = by_zero (order == 0) where
  by_zero : (none : Bool) → AllByRecursion IsLine (cond none [] (command_text (commands.Orders order) [] ∷ []))
  by_zero true = tt
  by_zero false = (one_line (commands.Orders order) [] tt, tt)

free-lines_to : (lab : LabState) (ls : List (List ℕ)) (order : ℕ) → AllByRecursion IsLine ls → AllByRecursion IsLine (lines_to lab ls order)
unfolding lines_to
free-lines_to lab [] order free = tt
free-lines_to lab (line ∷ later) order free =
    by_test (nat_lt order (orders_in lab (kept_of line))) (free-lines_to (after_kept lab (kept_of line)) later (order - orders_in lab (kept_of line)) free.1) where
      by_test : (test : Bool) → AllByRecursion IsLine (lines_to (after_kept lab (kept_of line)) later (order - orders_in lab (kept_of line)))
          → AllByRecursion IsLine (cond test (first_orders order) (stand_in (kept_of line) ∷ lines_to (after_kept lab (kept_of line)) later (order - orders_in lab (kept_of line))))
      by_test true rest = free-first order
      by_test false rest = (free-stand_in line free.0, rest)

free-way : (recorded : Recorded LabState) (order : Option ℕ) → AreLines (meaning_at_order recorded order)
free-way recorded None = tt
free-way recorded (Some order) = free-lines_to opening_state (lines recorded.transcript) order (lines_are_lines recorded.transcript)

free-meaning : (recorded : Recorded LabState) (asked : Entry) (line : List ℕ) → IsLine line → AreLines (meaning_of recorded asked (kept_of line))
free-meaning recorded entry.Itself line free = (free-stand_in _ free, tt)
free-meaning recorded (entry.Misformed part wrong) line free = (free-stand_in _ free, tt)
free-meaning recorded (entry.Script command) line free = (one_line command _ (free-text line free), tt)
free-meaning recorded (entry.Go address) line free = free-go _
free-meaning recorded (entry.Reported telling limit) line free = (free-run limit, tt)
free-meaning recorded (entry.Operate limit) line free = free-operated limit recorded.state
free-meaning recorded (entry.Until until limit) line free = (free-run (orders_done until limit recorded.state), tt)
free-meaning recorded (entry.Asked question) line free = tt
free-meaning recorded entry.Transcript line free = tt
free-meaning recorded entry.New line free = tt
free-meaning recorded (entry.To way form) line free = free-way recorded (order_of_way recorded way)
free-meaning recorded entry.Help line free = tt
free-meaning recorded (entry.HelpOf verb) line free = tt

free-now : (recorded : Recorded LabState) (line : List ℕ) → IsLine line → AreLines (meaning_now recorded line)
unfolding meaning_now
free-now recorded line free = by_source (is_some recorded.state.opened) where
  by_source : (opened : Bool) → AreLines (cond opened (Lines (stand_in (kept_of line) ∷ [])) (meaning_of recorded (entry_at recorded line) (kept_of line)))
  by_source true = (free-stand_in _ free, tt)
  by_source false = free-meaning recorded (entry_at recorded line) line free

-- a line about a moment stands for no line
pub free-at : (recorded : Recorded LabState) (line : List ℕ) → IsLine line → AreLines (meaning_at recorded line)
unfolding meaning_at
free-at recorded line free = by_moment (is_some (order_asked recorded (kept_of line))) where
  by_moment : (there : Bool) → AreLines (cond there (Lines []) (meaning_now recorded line))
  by_moment true = tt
  by_moment false = free-now recorded line free

pub reported_by_script : (text : List ℕ) → IsReportedByTranscript script_language opening_state (state_after monitor_language (untouched opening_state) (lines text))
reported_by_script text = reported_by_transcript script_language opening_state meaning_at monitor_language (λ recorded line. refl) (λ recorded line free. free-at recorded _ free) text

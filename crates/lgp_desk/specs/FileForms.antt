-- Part of the public promise: in which forms a file has a tape or the words of a drum: what is kept
-- there, and what is read from there or why it is refused.
use Rattle.std.specs.Prelude.{ℕ, ◌+◌, if◌then◌else◌, nat_lt, List, [], ◌∷◌, ◌++◌, codes, count_by}
use Rattle.std.specs.Prelude.{length, take, Result, Ok, Err}
use Rattle.std.specs.Option.{option_map_or}
use Rattle.std.specs.Str.Lines.{lines}
use Rattle.lgp_flexo.specs.Archive.{codes_of_archive}
use Rattle.lgp_flexo.specs.Tape.{all_codes}
use Rattle.lgp_flexo.specs.TapeText.{codes_of_text, tape_limit, written_tape}
use Rattle.lgp_listing.specs.Dump.{dump_of}
use Rattle.lgp_exchange.specs.ArchiveText.{archived_tape}
use Rattle.lgp_exchange.specs.Deposits.{deposits_of}
use Rattle.lgp_exchange.specs.Examined.{first_fault, words_of}
use Rattle.lgp_exchange.specs.TapeBytes.{first_no_code}
use Rattle.lgp_exchange.specs.declared.examined.ExaminedFault.{ExaminedFault}
use Rattle.lgp_exchange.specs.declared.examined.ExaminedFault.TheVariants as examined
use Rattle.lgp_stream.specs.KeptLine.{Kept, kept_of}
use Rattle.lgp_stream.specs.Language.{is_line_feed}
use Rattle.lgp_table.specs.State.{State}
use Rattle.lgp_desk.specs.declared.files.FileTrouble.{FileTrouble}
use Rattle.lgp_desk.specs.declared.files.FileTrouble.TheVariants as troubles
use Rattle.lgp_desk.specs.declared.request.DrumForm.{DrumForm}
use Rattle.lgp_desk.specs.declared.request.DrumForm.TheVariants as drums
use Rattle.lgp_desk.specs.declared.request.Made.{Made}
use Rattle.lgp_desk.specs.declared.request.Made.TheVariants as made
use Rattle.lgp_desk.specs.declared.request.TapeForm.{TapeForm}
use Rattle.lgp_desk.specs.declared.request.TapeForm.TheVariants as tapes

-- ---- tapes

-- a tape as it is kept: as bytes, each code is its number
abbrev pub tape_text : TapeForm → List ℕ → List ℕ
tape_text tapes.Text tape = written_tape tape
tape_text tapes.Archive tape = archived_tape tape
tape_text tapes.Bytes tape = tape

abbrev pub within_limit : List ℕ → Result (List ℕ) FileTrouble
within_limit tape = if nat_lt tape_limit (length tape) then Err troubles.LongTape else Ok tape

-- the codes of a file's text, or why it is no tape: the first bad place, with its line counted
-- from 1
unfoldable pub tape_in : Result (List ℕ) ℕ → List ℕ → Result (List ℕ) FileTrouble
tape_in (Ok tape) text = within_limit tape
tape_in (Err place) text =
    Err (troubles.BadSign place (count_by is_line_feed (take place text) + 1))

-- the codes of a file's bytes, or why they are no tape: the first byte that is no code
unfoldable pub coded : List ℕ → Result (List ℕ) FileTrouble
coded bytes =
    option_map_or (λ place. Err (troubles.NoCode place)) (first_no_code bytes) (within_limit bytes)

abbrev pub tape_of : TapeForm → List ℕ → Result (List ℕ) FileTrouble
tape_of tapes.Text text = tape_in (codes_of_text text) text
tape_of tapes.Archive text = tape_in (codes_of_archive text) text
tape_of tapes.Bytes text = coded text

-- ---- drums

-- the words of a drum as they are kept
abbrev pub drum_text : DrumForm → List ℕ → List ℕ
drum_text drums.Dump words = dump_of words
drum_text drums.Simh words = deposits_of words

-- the lines of a file as a dump has them: of a longer line than is kept its front, and a byte 0,
-- which no dump has
unfoldable pub dump_line : Kept → List ℕ
dump_line kept = kept.front ++ (if kept.longer then 0 ∷ codes "\n" else codes "\n")

unfoldable pub dump_lines : List (List ℕ) → List ℕ
dump_lines [] = []
dump_lines (line ∷ more) = dump_line (kept_of line) ++ dump_lines more

-- why a text has no words of SIMH's; memory is no fault of a text
abbrev pub examined_trouble : ExaminedFault → FileTrouble
examined_trouble (examined.Form line) = troubles.BadLine line
examined_trouble (examined.Order line) = troubles.LowAddress line
examined_trouble examined.Memory = troubles.NotRead

-- the dump of the words that a text of SIMH's has, or why it has none
unfoldable pub simh_dump : List ℕ → Result (List ℕ) FileTrouble
simh_dump text =
    option_map_or (λ fault. Err (examined_trouble fault)) (first_fault text)
    (Ok (dump_of (words_of text)))

-- the dump that a file's text stands for, or why it is refused; whether a dump is one, the monitor
-- says
abbrev pub dump_in : DrumForm → List ℕ → Result (List ℕ) FileTrouble
dump_in drums.Dump text = Ok (dump_lines (lines text))
dump_in drums.Simh text = simh_dump text

-- ---- what is kept of a machine in a state

abbrev pub text_made : Made → State → List ℕ
text_made (made.Drum form) s = drum_text form s.core.words
text_made (made.Printed form) s = tape_text form s.printed
text_made (made.Mounted form) s = tape_text form (all_codes s.core.tape)

-- Part of the public promise: what a typed line asks for that names a file.
use Rattle.std.specs.Prelude.{ℕ, ◌==◌, not, ◌&&◌, Bool, if◌then◌else◌, Option, Some, None}
use Rattle.std.specs.Prelude.{List, [], ◌∷◌, codes, length}
use Rattle.std.specs.Option.{option_and_then}
use Rattle.std.specs.Str.{bytes_eq}
use Rattle.lgp_stream.specs.KeptLine.{Kept}
use Rattle.lgp_stream.specs.LineWords.{after_word, first_word, has_no_word, without_spaces}
use Rattle.lgp_text.specs.NamedValues.{named}
use Rattle.lgp_desk.specs.declared.request.DrumForm.TheVariants as drums
use Rattle.lgp_desk.specs.declared.request.Made.TheVariants as made
use Rattle.lgp_desk.specs.declared.request.TapeForm.TheVariants as tapes
use Rattle.lgp_desk.specs.declared.request.Work.{Work}
use Rattle.lgp_desk.specs.declared.request.Work.TheVariants as works

-- what is done with a file, by the first word of a line
abbrev pub work_names : List (List ℕ × Work)
work_names =
    (codes "do", works.Lines)
    ∷ (codes "source", works.Source)
    ∷ (codes "tape", works.Tape tapes.Text)
    ∷ (codes "archive", works.Tape tapes.Archive)
    ∷ (codes "bytes", works.Tape tapes.Bytes)
    ∷ (codes "copy", works.Keep (made.Mounted tapes.Text))
    ∷ (codes "copy-archive", works.Keep (made.Mounted tapes.Archive))
    ∷ (codes "copy-bytes", works.Keep (made.Mounted tapes.Bytes))
    ∷ (codes "punch", works.Keep (made.Printed tapes.Text))
    ∷ (codes "punch-archive", works.Keep (made.Printed tapes.Archive))
    ∷ (codes "punch-bytes", works.Keep (made.Printed tapes.Bytes))
    ∷ (codes "save", works.Keep (made.Drum drums.Dump))
    ∷ (codes "save-simh", works.Keep (made.Drum drums.Simh))
    ∷ (codes "restore", works.Restore drums.Dump)
    ∷ (codes "restore-simh", works.Restore drums.Simh)
    ∷ []

-- a text without the spaces at its end
unfoldable pub trimmed : List ℕ → List ℕ
trimmed [] = []
trimmed (first ∷ more) = if has_no_word (first ∷ more) then [] else first ∷ trimmed more

-- the name of the file that a line names: all that comes after its first word, without the spaces
-- in front and at the end
unfoldable pub file_name : List ℕ → List ℕ
file_name line = trimmed (without_spaces (after_word line))

-- what a line asks for, and the name of the file, if it names one
unfoldable pub request_of : List ℕ → Option (Work × List ℕ)
request_of line =
    option_and_then
    (λ work. if length (file_name line) == 0 then None else Some (work, file_name line))
    (named work_names (first_word line))

-- the line that leaves the desk: the word `quit` alone
unfoldable pub is_quit : Kept → Bool
is_quit kept =
    not kept.longer
    && (bytes_eq (first_word kept.front) (codes "quit") && has_no_word (after_word kept.front))

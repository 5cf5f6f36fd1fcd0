-- Part of the public promise: lines that ask for the moment of an order, which is its beginning.
use Rattle.std.specs.Prelude.{ℕ, ◌||◌, not, if◌then◌else◌, Option, None, List, ◌++◌, codes}
use Rattle.std.specs.Str.{bytes_eq}
use Rattle.lgp_stream.specs.KeptLine.{Kept}
use Rattle.lgp_stream.specs.LineWords.{after_word, first_word, has_no_word, without_spaces}
use Rattle.lgp_command.specs.Command.{number_at}
use Rattle.lgp_script.specs.Refusal.{refusal_words}
use Rattle.lgp_script.specs.declared.refusal.Refusal.TheVariants.{TooFar}

-- the line that is answered there
unfoldable pub line_there : List ℕ → List ℕ
line_there front = without_spaces (after_word (after_word front))

-- the order, of a line of which this is kept
unfoldable pub moment_asked : Kept → Option ℕ
moment_asked kept =
    if kept.longer || (not (bytes_eq (first_word kept.front) (codes "at"))
    || has_no_word (line_there kept.front)) then None
    else number_at (first_word (after_word kept.front))

-- the refusal where there were fewer orders
unfoldable pub not_yet_text : ℕ → List ℕ
not_yet_text orders = refusal_words (TooFar orders) ++ codes ": only this many orders were performed\n"

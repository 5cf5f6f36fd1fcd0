-- Part of the public promise: what is wrong with a line that is in no command's form, and what is
-- said of it.
use Rattle.std.specs.Prelude.{ℕ, if◌then◌else◌}
use Rattle.std.specs.Prelude.{List, ◌++◌, codes}
use Rattle.lgp_stream.specs.LineWords.{after_word, first_word}
use Rattle.lgp_monitor.specs.Mistakes.{has_capital, said_of}
use Rattle.lgp_monitor.specs.Verbs.{operands_form}
use Rattle.lgp_monitor.specs.declared.mistake.Mistake.TheVariants as mistakes
use Rattle.lgp_monitor.specs.declared.wrong.LineWord.{LineWord}
use Rattle.lgp_monitor.specs.declared.wrong.LineWord.TheVariants.{Name, First, Second, Third, Fourth, Fifth, Sixth}
use Rattle.lgp_monitor.specs.declared.wrong.Part.{Part}
use Rattle.lgp_monitor.specs.declared.wrong.Part.TheVariants.{AfterName}
use Rattle.lgp_monitor.specs.declared.wrong.Part.TheVariants as parts
use Rattle.lgp_monitor.specs.declared.wrong.Wrong.{Wrong}
use Rattle.lgp_monitor.specs.declared.wrong.Wrong.TheVariants.{NoCommand, Operands}
use Rattle.lgp_monitor.specs.declared.wrong.Wrong.TheVariants as wrongs

abbrev pub after_three : List ℕ → List ℕ
after_three line = after_word (after_word (after_word line))

abbrev pub line_word : LineWord → List ℕ → List ℕ
line_word Name line = first_word line
line_word First line = first_word (after_word line)
line_word Second line = first_word (after_word (after_word line))
line_word Third line = first_word (after_three line)
line_word Fourth line = first_word (after_word (after_three line))
line_word Fifth line = first_word (after_word (after_word (after_three line)))
line_word Sixth line = first_word (after_three (after_three line))

-- the word after a word
abbrev pub next_word : LineWord → LineWord
next_word Name = First
next_word First = Second
next_word Second = Third
next_word Third = Fourth
next_word Fourth = Fifth
next_word which = Sixth

-- a part of a line: all of it, or what comes after the name of its command
abbrev pub part_of : Part → List ℕ → List ℕ
part_of parts.Line line = line
part_of AfterName line = after_word line

-- of a line whose first word is no command's name
abbrev pub name_wrong : List ℕ → Wrong
name_wrong word = if has_capital word then wrongs.Word Name mistakes.Capital else NoCommand

-- what is said of a line
abbrev pub wrong_text : List ℕ → Wrong → List ℕ
wrong_text line NoCommand = codes "there is no such command; help lists them all"
wrong_text line (wrongs.Word which mistake) = said_of (line_word which line) mistake
wrong_text line (Operands verb) = first_word line ++ operands_form verb

-- the refusal of a line by what is wrong with a part of it
unfoldable pub misformed_text : List ℕ → Part → Wrong → List ℕ
misformed_text line part wrong =
    codes "? 1 Form: " ++ (wrong_text (part_of part line) wrong ++ codes "\n")

-- Part of the public promise. Going back to an earlier order boundary: a mark keeps what cannot be
-- read off the machine later.
use Rattle.std.specs.Prelude.{ℕ, ◌&&◌, Bool, nat_le, List, length, take, Option, Some, None}
use Rattle.std.specs.Prelude.{slice_set}
use Rattle.lgp_flexo.specs.Tape.{all_codes, tape_at}
use Rattle.lgp_table.specs.State.{State, core_of}
use Rattle.lgp_machine.specs.declared.mark.Mark.{Mark}

-- the mark of a state
abbrev pub mark_of : State → Mark
mark_of s = record {
  panel = s.core.panel;
  reader_on = s.core.tape.on;
  clock = s.clock;
  printed = length s.printed;
  passed = length s.core.tape.passed;
}

-- whether a state has printed and passed as many codes as a mark says
abbrev pub has_reached : State → Mark → Bool
has_reached s mark =
    nat_le mark.printed (length s.printed) && nat_le mark.passed (length s.core.tape.passed)

-- the words with one of them changed, or none
abbrev pub words_with : List ℕ → Option (ℕ × ℕ) → List ℕ
words_with words None = words
words_with words (Some (address, word)) = slice_set words address word

-- the state back at a mark, with one word of the drum put
abbrev pub state_at_mark : State → Mark → Option (ℕ × ℕ) → State
state_at_mark s mark change = record {
  core = core_of mark.panel (words_with s.core.words change)
      (tape_at mark.reader_on (all_codes s.core.tape) mark.passed);
  printed = take mark.printed s.printed;
  clock = mark.clock;
}

-- the state with another tape in the reader, of which a given number of codes have passed
abbrev pub with_tape_at : State → List ℕ → ℕ → State
with_tape_at s codes passed =
    record s { core = record s.core { tape = tape_at s.core.tape.on codes passed } }

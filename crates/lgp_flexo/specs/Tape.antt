-- Part of the public promise. The tape in the reader (Operations Manual, "The tape reader"):
-- whether the reader is on, the codes that have passed it since the tape was mounted, and the codes
-- that have not, each in order.
use Rattle.std.specs.Prelude.{ℕ, ◌-◌, ◌++◌, ◌&&◌, Bool, false, if◌then◌else◌, List, [], drop}
use Rattle.std.specs.Prelude.{length, take}
use Rattle.lgp_flexo.specs.Input.{passed_codes, left_after, met_stop}

pub record Tape : Type 0 where
  pub on : Bool
  pub passed : List ℕ
  pub left : List ℕ

-- a tape of which a given number of codes have passed
abbrev pub tape_at : Bool → List ℕ → ℕ → Tape
tape_at on codes count = record { on = on; passed = take count codes; left = drop count codes }

-- a tape that has just been mounted: the reader is off, and all codes are left
abbrev pub fresh_tape : List ℕ → Tape
fresh_tape codes = record { on = false; passed = []; left = codes }

-- all codes of a tape, those that have passed and those that are left
abbrev pub all_codes : Tape → List ℕ
all_codes tape = tape.passed ++ tape.left

-- a tape of which the last codes that passed, this many, are left again
abbrev pub tape_before : Tape → ℕ → Tape
tape_before tape count = tape_at tape.on (all_codes tape) (length tape.passed - count)

-- the codes that an input passes: none with the reader off
abbrev pub passing : Tape → List ℕ
passing tape = if tape.on then passed_codes tape.left else []

-- the tape after an input, which leaves the reader off
abbrev pub tape_after_input : Tape → Tape
tape_after_input tape = record {
  on = false;
  passed = tape.passed ++ passing tape;
  left = if tape.on then left_after tape.left else tape.left;
}

-- whether an input ends in a conditional stop
abbrev pub input_done : Tape → Bool
input_done tape = tape.on && met_stop tape.left

-- Part of the public promise. The codes that have passed the reader are in the state so that a
-- step back can put the tape back. No order, cost or action looks at them: this says what a state
-- is without them.
use Rattle.std.specs.Prelude.{[]}
use Rattle.lgp_flexo.specs.Tape.{Tape}
use Rattle.lgp_table.specs.State.{Core, State}

-- a tape as if nothing had passed since it was mounted
abbrev pub tape_without_passed : Tape → Tape
tape_without_passed tape = record tape { passed = [] }

-- a core and a state with such a tape
abbrev pub core_without_passed : Core → Core
core_without_passed core = record core { tape = tape_without_passed core.tape }

abbrev pub without_passed : State → State
without_passed s = record s { core = core_without_passed s.core }

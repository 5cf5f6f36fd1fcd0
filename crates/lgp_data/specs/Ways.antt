-- Part of the public promise: what a machine is doing, and what lets it go on, as a word for programs
-- and in words.
use Rattle.std.specs.Prelude.{ℕ, List, codes}
use Rattle.lgp_table.specs.declared.panel.Cause.{Cause}
use Rattle.lgp_table.specs.declared.panel.Cause.TheVariants.{Operator, Stop, Overflow, Step}
use Rattle.lgp_table.specs.declared.panel.Mode.{Mode}
use Rattle.lgp_table.specs.declared.panel.Mode.TheVariants.{Normal, OneOperation, Manual}
use Rattle.lgp_table.specs.declared.panel.Status.{Status}
use Rattle.lgp_table.specs.declared.panel.Status.TheVariants.{Halted, Waiting}

-- what lets the machine go on: its orders are performed, an input takes keys, or Start is pressed,
-- in Manual after Normal
unfoldable pub way_kind : Status → Mode → List ℕ
way_kind Waiting mode = codes "keys"
way_kind (Halted cause) Manual = codes "normal-start"
way_kind (Halted cause) mode = codes "start"
way_kind status mode = codes "orders"

unfoldable pub way_sentence : Status → Mode → List ℕ
way_sentence Waiting mode = codes "press read to start the tape, or press compute to end the input"
way_sentence (Halted cause) Normal = codes "press start to continue"
way_sentence (Halted cause) OneOperation = codes "press start to perform one order"
way_sentence (Halted cause) Manual = codes "press normal and then press start to continue"
way_sentence status mode = codes "use run to continue, or press manual to halt it"

-- what halted the machine
abbrev pub halt_sentence : Cause → List ℕ
halt_sentence Operator = codes "the operator halted the machine, or has not started it"
halt_sentence Stop = codes "a stop order halted the machine"
halt_sentence Overflow = codes "an overflow halted the machine"
halt_sentence Step = codes "the machine halted after one operation"

-- what the machine is doing
unfoldable pub state_sentence : Status → List ℕ
state_sentence (Halted cause) = halt_sentence cause
state_sentence Waiting = codes "an input is waiting for codes"
state_sentence status = codes "the machine is still going"

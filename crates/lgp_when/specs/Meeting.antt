-- Part of the public promise: orders that are performed one after another, and looked at. What is kept
-- from one order to the next is what is to be seen of a condition.
use Rattle.std.specs.Prelude.{◌≡◌, ℕ, if◌then◌else◌, length, List, Result, Option, Ok, Err}
use Rattle.lgp_table.specs.State.{State, word_at}
use Rattle.lgp_debugger.specs.declared.fault.StepFault.{StepFault}
use Rattle.lgp_when.specs.When.{holds, rows_in}
use Rattle.lgp_when.specs.declared.condition.Condition.{Condition}
use Rattle.lgp_when.specs.declared.condition.Condition.TheVariants.{Changed}
use Rattle.lgp_when.specs.declared.meeting.Meeting.{Meeting}
use Rattle.lgp_when.specs.declared.meeting.Met.{Met}
use Rattle.lgp_when.specs.declared.paper.Paper.{Paper}

-- how much is printed
pub record IsPaperOf (paper : Paper) (printed : List ℕ) : Type 0 where
  pub codes : paper.codes ≡ length printed
  pub rows : paper.rows ≡ rows_in printed

-- what is to be seen of a condition: the word that may change, or whether it holds
abbrev pub sight : State → Condition → ℕ
sight s (Changed address) = word_at s.core address
sight s condition = if holds s condition then 1 else 0

-- what was seen last is what is to be seen
pub record IsMeeting (meeting : Meeting) (s : State) : Type 0 where
  pub paper : IsPaperOf meeting.paper s.printed
  pub sight : meeting.sight ≡ sight s meeting.condition

-- the number of the rule that stops a run after an order, whatever the order met
abbrev pub stop_of : Result Met StepFault → Result (Option ℕ) StepFault
stop_of (Ok met) = Ok met.stop
stop_of (Err fault) = Err fault

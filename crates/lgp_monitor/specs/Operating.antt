-- Part of the public promise: the monitor as an operator whose typewriter starts the machine again
-- when it has struck. Where the machine has halted at a z after a p, Start is pressed, and the run
-- is asked for again.
use Rattle.std.specs.Prelude.{ℕ, zero, suc, ◌+◌, ◌-◌, ◌%◌, ◌==◌, ◌&&◌, Bool, true, false}
use Rattle.std.specs.Prelude.{if◌then◌else◌, slice_index, List, [], ◌∷◌, ◌++◌, codes, decimal}
use Rattle.lgp_word.specs.Order.{op_at}
use Rattle.lgp_word.specs.declared.order.Op.{Op}
use Rattle.lgp_word.specs.declared.order.Op.TheVariants.{Z, P}
use Rattle.lgp_command.specs.CommandText.{command_text}
use Rattle.lgp_command.specs.declared.command.Command.TheVariants as commands
use Rattle.lgp_table.specs.declared.action.Action.TheVariants as actions
use Rattle.lgp_table.specs.declared.panel.Cause.TheVariants.{Stop}
use Rattle.lgp_table.specs.declared.panel.Status.{Status}
use Rattle.lgp_table.specs.declared.panel.Status.TheVariants.{Halted}
use Rattle.lgp_script.specs.LabState.{LabState}
use Rattle.lgp_script.specs.HistoryCommands.{replied_to_run}
use Rattle.lgp_script.specs.MachineCommands.{replied_to_press}
use Rattle.lgp_script.specs.Reply.{Replied}

-- ---- when Start is pressed

abbrev pub has_stopped : Status → Bool
has_stopped (Halted Stop) = true
has_stopped status = false

abbrev pub is_stop : Op → Bool
is_stop Z = true
is_stop op = false

abbrev pub is_print : Op → Bool
is_print P = true
is_print op = false

-- the order at a number of places before the counter
unfoldable pub op_before : LabState → ℕ → Op
op_before lab places =
    let core = lab.debugger.state.core in
    op_at (slice_index core.words ((core.panel.counter + (4096 - places)) % 4096))

-- a stop order has halted the machine, and at the place before it is a print order
unfoldable pub waits_for_typewriter : LabState → Bool
waits_for_typewriter lab =
    has_stopped lab.debugger.state.core.panel.status
    && (is_stop (op_before lab 1) && is_print (op_before lab 2))

-- ---- what is done

-- the line of a run
unfoldable pub run_line : ℕ → List ℕ
run_line limit = command_text (commands.Run limit) []

abbrev pub start_line : List ℕ
start_line = command_text (commands.Press actions.Start) []

-- lines of a script, the reply to the last run with the state after it, and how often Start is
-- pressed
pub record Operated : Type 0 where
  pub lines : List (List ℕ)
  pub last : Replied
  pub starts : ℕ

abbrev pub ended_with : Replied → Operated
ended_with ran = record { lines = []; last = ran; starts = 0 }

abbrev pub once_more : ℕ → Operated → Operated
once_more limit more = record {
  lines = start_line ∷ run_line limit ∷ more.lines;
  last = more.last;
  starts = more.starts + 1;
}

-- where Start is pressed after a run, and the run is asked for again
abbrev pub run_again : ℕ → LabState → Replied
run_again limit lab = replied_to_run (replied_to_press lab actions.Start).after limit

-- after a run that left this, where Start may be pressed a number of times
abbrev pub operated_on : ℕ → ℕ → Replied → Operated
operated_on limit zero ran = ended_with ran
operated_on limit (suc starts) ran =
    if waits_for_typewriter ran.after
    then once_more limit (operated_on limit starts (run_again limit ran.after))
    else ended_with ran

-- a run, and what follows
unfoldable pub operated : ℕ → LabState → Operated
operated limit lab =
    let more = operated_on limit limit (replied_to_run lab limit) in
    record more { lines = run_line limit ∷ more.lines }

-- how often Start was pressed
unfoldable pub starts_text : ℕ → List ℕ
starts_text starts =
    if starts == 0 then []
    else codes "        started again at a z after a p: " ++ (decimal starts ++ codes "\n")

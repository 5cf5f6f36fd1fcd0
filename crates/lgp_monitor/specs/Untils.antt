-- Part of the public promise: runs that end with the order that meets a condition.
use Rattle.std.specs.Prelude.{ℕ, Bool, if◌then◌else◌, List, codes}
use Rattle.lgp_script.specs.HistoryCommands.{orders_run, replied_to_run}
use Rattle.lgp_script.specs.LabState.{LabState}
use Rattle.lgp_script.specs.Reply.{Replied}
use Rattle.lgp_script.specs.UntilReply.{most_until}
use Rattle.lgp_when.specs.Until.{is_done}
use Rattle.lgp_when.specs.declared.until.Until.{Until}

-- of at most a number of orders
module _ (until : Until) (limit : ℕ) (lab : LabState) where
  abbrev pub replied_until : Replied
  replied_until = replied_to_run lab (most_until until limit lab)

  -- how many it performs: it stands for a run of as many
  abbrev pub orders_done : ℕ
  orders_done = orders_run (most_until until limit lab) lab.debugger

  abbrev pub is_met : Bool
  is_met = is_done until lab.debugger.state orders_done

-- whether the condition was met
unfoldable pub met_text : Bool → List ℕ
met_text is_met =
    if is_met then codes "        the condition is met\n"
    else codes "        the condition is not met\n"

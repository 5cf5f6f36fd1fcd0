-- Part of the public promise: what is answered to a run that ends with the order that meets a
-- condition.
use Rattle.std.specs.Prelude.{◌≡◌, ℕ, ◌≤◌}
use Rattle.lgp_when.specs.Until.{is_done, orders_until}
use Rattle.lgp_when.specs.declared.until.Until.{Until}
use Rattle.lgp_script.specs.HistoryCommands.{orders_run, replied_to_run}
use Rattle.lgp_script.specs.LabState.{LabState}
use Rattle.lgp_script.specs.Reply.{IsReplied}
use Rattle.lgp_script.specs.declared.until_reply.UntilReply.{UntilReply}

-- of how many orders a run is asked for where at most a number of them are waited for
abbrev pub most_until : Until → ℕ → LabState → ℕ
most_until until limit lab = orders_until until limit lab.debugger.state

-- it is what `run` answers that is asked for the orders up to there; and one that is asked for the
-- orders which were performed leaves the same
pub record IsRepliedUntil (until : Until) (limit : ℕ) (old new : LabState) (answer : UntilReply)
    : Type 0 where
  pub replied : IsReplied answer.reply new (replied_to_run old (most_until until limit old))
  pub orders : answer.orders ≡ orders_run (most_until until limit old) old.debugger
  pub met : answer.is_met ≡ is_done until old.debugger.state answer.orders
  pub within : answer.orders ≤ limit
  pub again : new ≡ (replied_to_run old answer.orders).after

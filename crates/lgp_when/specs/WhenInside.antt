-- Serves proofs only: what is waited for after some orders of a run.
use Rattle.std.specs.Prelude.{◌≡◌, ℕ, ◌+◌, if◌then◌else◌}
use Rattle.lgp_debugger.specs.declared.fault.Reason.{Reason}
use Rattle.lgp_debugger.specs.declared.fault.Reason.TheVariants.{Limit, Rest}
use Rattle.lgp_table.specs.Console.{is_at_rest}
use Rattle.lgp_table.specs.After.{after}
use Rattle.lgp_table.specs.State.{State}
use Rattle.lgp_when.specs.Meeting.{IsMeeting}
use Rattle.lgp_when.specs.When.{times_met}
use Rattle.lgp_when.specs.declared.watch.Watch.{Watch}

-- what is left to be met after a number of orders
pub record IsWatching (watch : Watch) (s : State) (count : ℕ) : Type 0 where
  pub meeting : IsMeeting watch.meeting (after s count)
  pub left : times_met watch.meeting.condition s count + watch.left ≡ watch.times

-- why a run ends that no rule stopped
abbrev pub end_reason : State → Reason
end_reason s = if is_at_rest s.core.panel.status then Rest else Limit

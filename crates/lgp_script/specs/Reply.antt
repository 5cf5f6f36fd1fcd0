-- Part of the public promise: the script language, what a command is replied, as a value.
use Rattle.std.specs.Prelude.{◌≡◌, if◌then◌else◌, Result}
use Rattle.std.specs.Option.{option_map_or}
use Rattle.std.specs.Result.{result_ok}
use Rattle.lgp_table.specs.Console.{is_at_rest}
use Rattle.lgp_history.specs.Step.{Step}
use Rattle.lgp_debugger.specs.Debugging.{Debugging, after_step}
use Rattle.lgp_debugger.specs.declared.fault.Ran.{Ran}
use Rattle.lgp_debugger.specs.declared.fault.RunFault.{RunFault}
use Rattle.lgp_script.specs.LabState.{LabState}
use Rattle.lgp_script.specs.declared.refusal.Refusal.{Refusal}
use Rattle.lgp_script.specs.declared.refusal.Refusal.TheVariants.{ClockEnd, Moving}
use Rattle.lgp_script.specs.declared.reply.Reply.{Reply}
use Rattle.lgp_script.specs.declared.reply.Reply.TheVariants as replies

-- a reply, and the state after it
pub record Replied : Type 0 where
  pub reply : Reply
  pub after : LabState

-- this was replied, and this is the state after it
pub record IsReplied (said : Reply) (state : LabState) (replied : Replied) : Type 0 where
  pub reply : said ≡ replied.reply
  pub after : state ≡ replied.after

-- a reply after which nothing has changed
abbrev pub replying : Reply → LabState → Replied
replying reply lab = record { reply = reply; after = lab }

abbrev pub refusing : Refusal → LabState → Replied
refusing refusal lab = replying (replies.Refused refusal) lab

-- the reply to a run, which is a refusal where the clock's end broke it off
abbrev pub outcome_reply : (Ran → Reply) → Result Ran RunFault → Reply
outcome_reply reported outcome =
    option_map_or reported (result_ok outcome) (replies.Refused ClockEnd)

-- a reply that leaves the machine, its kept steps and its rules so
abbrev pub leaving : Reply → LabState → Debugging → Replied
leaving reply lab debugger =
    record { reply = reply; after = record lab { debugger = debugger } }

-- the reply to a step that is done at rest alone
abbrev pub replied_to_step : Reply → LabState → Step → Replied
replied_to_step reply lab step =
    if is_at_rest lab.debugger.state.core.panel.status
    then leaving reply lab (after_step lab.debugger step)
    else refusing Moving lab

-- Part of the public promise: what is said after replies: the reasons of refusals, and the
-- machine's state after a run that is reported.
use Rattle.std.specs.Prelude.{ℕ, Bool, true, false, if◌then◌else◌, List, []}
use Rattle.std.specs.Prelude.{◌++◌, codes}
use Rattle.lgp_fields.specs.Printed.{record_in}
use Rattle.lgp_fields.specs.declared.records.RecordForm.{RecordForm}
use Rattle.lgp_script.specs.LabState.{LabState}
use Rattle.lgp_script.specs.Refusal.{refusal_words}
use Rattle.lgp_script.specs.ReplyText.{reply_text}
use Rattle.lgp_script.specs.declared.refusal.Refusal.{Refusal}
use Rattle.lgp_script.specs.declared.refusal.Refusal.TheVariants as refusals
use Rattle.lgp_script.specs.declared.reply.Reply.{Reply}
use Rattle.lgp_script.specs.declared.reply.Reply.TheVariants as replies
use Rattle.lgp_monitor.specs.RunEnds.{ends_open, ran_record, stand_text}
use Rattle.lgp_monitor.specs.declared.telling.Report.{Report}
use Rattle.lgp_monitor.specs.declared.telling.Report.TheVariants as reports

-- why a command is refused
unfoldable pub reason_of : Refusal → List ℕ
reason_of refusals.Form = codes "no command has this form"
reason_of refusals.Moving = codes "the machine is running; press manual to halt it"
reason_of refusals.AtWork = codes "the machine is running, and turn needs it to be at rest"
reason_of refusals.ClockEnd = codes "the clock would pass its limit, 4611686018427387904"
reason_of refusals.Full = codes "there are already 64 rules; drop removes one"
reason_of refusals.NoRule = codes "no rule has this number; the command rules lists them"
reason_of (refusals.TooFar kept) = codes "only this many orders are kept"
reason_of (refusals.NoHit kept) =
    codes "this many orders are kept, and no rule hits any of them"
reason_of refusals.NoImage = codes "no source has been assembled yet"
reason_of refusals.TooLong = codes "a line may have at most 4096 bytes, a source at most 1048576"
reason_of (refusals.BadSign place) =
    codes "the byte at this position in the text, counting from 0, does not begin a tape sign"

-- a refusal as scripts have it, and after it the reason
unfoldable pub refused_text : Refusal → List ℕ
refused_text refusal =
    refusal_words refusal ++ (codes ": " ++ (reason_of refusal ++ codes "\n"))

-- a reply as scripts have it, but a refusal with its reason
unfoldable pub explained_text : LabState → Reply → List ℕ
explained_text lab (replies.Refused refusal) = refused_text refusal
explained_text lab reply = reply_text lab reply

-- whether a reply is a refusal
abbrev pub is_refusal : Reply → Bool
is_refusal (replies.Refused refusal) = true
is_refusal reply = false

-- whether a reply leaves open in which state the machine is
abbrev pub leaves_open : Reply → Bool
leaves_open (replies.Ran ran) = ends_open ran.orders ran.reason
leaves_open reply = false

-- the reply to a run that is reported in columns; after one that leaves the state open, a line that
-- says it
unfoldable pub stood_text : LabState → Reply → List ℕ
stood_text lab reply =
    let panel = lab.debugger.state.core.panel in
    explained_text lab reply
    ++ (if leaves_open reply then stand_text panel.status panel.mode else [])

-- the reply to a run that is reported by records
abbrev pub ran_text_in : RecordForm → LabState → Reply → List ℕ
ran_text_in form lab (replies.Ran ran) =
    let panel = lab.debugger.state.core.panel in
    record_in form (ran_record ran panel.status panel.mode)
ran_text_in form lab reply = explained_text lab reply

-- the reply to a run that is reported in a form, with what is said after it
unfoldable pub run_end_text : Report → LabState → Reply → List ℕ
run_end_text reports.Columns lab reply = stood_text lab reply
run_end_text (reports.Records form) lab reply = ran_text_in form lab reply

-- Part of the public promise: the script language, how a reply is written. What is long is read off
-- the laboratory in the state after the command.
use Rattle.std.specs.Prelude.{ℕ, List, [], codes}
use Rattle.lgp_listing.specs.Dump.{cell_line}
use Rattle.lgp_script.specs.DrumCommands.{dump_text, lines_text, order_line}
use Rattle.lgp_script.specs.HistoryCommands.{hit_text, ran_text}
use Rattle.lgp_script.specs.LabState.{Answer, LabState}
use Rattle.lgp_script.specs.MachineCommands.{orders_text, panel_text, typed_text}
use Rattle.lgp_script.specs.Refusal.{counted_text, refusal_text}
use Rattle.lgp_script.specs.Reply.{Replied}
use Rattle.lgp_script.specs.SourceCommands.{list_text}
use Rattle.lgp_script.specs.TapeCommands.{printed_text}
use Rattle.lgp_script.specs.declared.reply.Reply.{Reply}
use Rattle.lgp_script.specs.declared.reply.Reply.TheVariants as replies

unfoldable pub reply_text : LabState → Reply → List ℕ
reply_text lab replies.Done = codes "ok\n"
reply_text lab (replies.Mounted count) = counted_text (codes "ok ") count
reply_text lab replies.Live = codes "live\n"
reply_text lab replies.Dead = codes "dead\n"
reply_text lab (replies.Struck live dead) = typed_text live dead
reply_text lab (replies.Clock clock) = counted_text (codes "clock ") clock
reply_text lab (replies.Orders orders status) = orders_text orders status
reply_text lab replies.Panel = panel_text lab.debugger.state
reply_text lab (replies.Words range) =
    lines_text cell_line lab.debugger.state range.first range.count
reply_text lab (replies.Show range) =
    lines_text order_line lab.debugger.state range.first range.count
reply_text lab replies.Printed = printed_text lab.debugger.state.printed
reply_text lab replies.Dump = dump_text lab.debugger.state.core.words
reply_text lab replies.Opened = []
reply_text lab replies.List = list_text lab.source
reply_text lab (replies.Loaded orders) = counted_text (codes "loaded ") orders
reply_text lab (replies.Rule number) = counted_text (codes "rule ") number
reply_text lab (replies.Ran ran) = ran_text ran
reply_text lab (replies.Hit orders rule) = hit_text orders rule
reply_text lab (replies.Refused refusal) = refusal_text refusal

-- an answer with the reply as it is written
abbrev pub written : Replied → Answer
written replied =
    record { reply = reply_text replied.after replied.reply; after = replied.after }

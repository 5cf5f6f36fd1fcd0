-- Each command in its place, one after another.
use Rattle.lgp_task.specs.CommandLine.{command_line}
use Rattle.lgp_task.proofs.command_line.command_line.Goals as goal

pub returns : goal.returns
unfolding command_line
returns c =
    let asm = c.with_command-line.ensures _ _ c.bare_line-line.ensures c.asm_command.ensures.app in
    let tape = c.with_command-line-2.ensures _ _ asm c.tape_command.ensures.app in
    let run = c.with_command-line-3.ensures _ _ tape c.run_command.ensures.app in
    let script = c.with_command-line-4.ensures _ _ run c.script_command.ensures.app in
    c.with_command.ensures _ _ script c.batch_command.ensures.app

-- Each argument in its place, one after another.
use Rattle.lgp_task.specs.CommandLine.{monitor_line}
use Rattle.lgp_task.proofs.command_line.monitor_line.Goals as goal

pub returns : goal.returns
unfolding monitor_line
returns c =
    let files = c.with_argument-line.ensures.app _ _ c.any_files.ensures.rule c.bare_line-line.ensures in
    let echo = c.with_argument-line-2.ensures.app _ _ c.flag-echo.ensures.rule files in
    c.with_argument.ensures.app _ _ c.flag.ensures.rule echo

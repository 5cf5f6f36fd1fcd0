-- The command has its file.
use Rattle.lgp_task.proofs.command_line.file_command.Goals as goal

pub returns-clause-app : goal.returns-clause-app
returns-clause-app c = c.with_argument.ensures.app _ _ c.file.ensures.rule c.command-command.ensures.app

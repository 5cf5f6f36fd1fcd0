-- The limit comes after the file.
use Rattle.lgp_task.proofs.command_line.run_command.Goals as goal

pub returns-clause-app : goal.returns-clause-app
returns-clause-app c = c.with_argument.ensures.app _ _ c.limit.ensures.rule c.file_command-run.ensures.app

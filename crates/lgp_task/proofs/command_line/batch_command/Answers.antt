-- The command has its files.
use Rattle.lgp_task.proofs.command_line.batch_command.Goals as goal

pub returns-clause-app : goal.returns-clause-app
returns-clause-app c = c.with_argument.ensures.app _ _ c.files.ensures.rule c.command-batch.ensures.app

use Rattle.std.proofs.Common.{rules}
use Rattle.lgp_task.proofs.session.session_of.Goals as goal

pub returns-clause-task : goal.returns-clause-task
returns-clause-task g c = search rules

use Rattle.std.proofs.Common.{rules}
use Rattle.lgp_history.proofs.checkpoints.Latest.pass.Goals as goal

pub returns-else-is_some-clause-hit : goal.returns-else-is_some-clause-hit
returns-else-is_some-clause-hit c = search rules

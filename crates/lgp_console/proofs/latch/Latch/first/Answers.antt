use Rattle.std.proofs.Common.{rules}
use Rattle.lgp_console.proofs.latch.Latch.first.Goals as goal

pub returns-else-is_empty-clause-oldest : goal.returns-else-is_empty-clause-oldest
returns-else-is_empty-clause-oldest c = search rules

use Rattle.std.proofs.Common.{rules}
use Rattle.lgp_limited.proofs.counts.Counts.after_next.Goals as goal

pub returns-then-refuses-clause-left : goal.returns-then-refuses-clause-left
returns-then-refuses-clause-left c = search rules

pub returns-else-refuses-clause-left : goal.returns-else-refuses-clause-left
returns-else-refuses-clause-left c = search rules

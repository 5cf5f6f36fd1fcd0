use Rattle.std.proofs.Common.{rules}
use Rattle.lgp_phases.proofs.times.wait.Goals as goal

pub returns-clause-wait : goal.returns-clause-wait
returns-clause-wait c = search rules

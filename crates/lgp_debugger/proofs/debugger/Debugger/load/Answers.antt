use Rattle.std.proofs.Common.{rules}
use Rattle.lgp_debugger.proofs.debugger.Debugger.load.Goals as goal

pub invariant_of-self : goal.invariant_of-self
invariant_of-self g c = search rules

pub returns-in-Ok-clause-loaded : goal.returns-in-Ok-clause-loaded
returns-in-Ok-clause-loaded g c = search rules

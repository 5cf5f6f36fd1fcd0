use Rattle.lgp_loader.proofs.Ready.{HasPerformed}
use Rattle.lgp_loader.proofs.loading.perform.Given as goal

abbrev pub invariant-loop : goal.invariant-loop
invariant-loop g l = HasPerformed (g.M.Operate.configuration l.machine) (g.M.Operate.configuration l.fn.machine).state l.counter

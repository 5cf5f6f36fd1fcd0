use Rattle.std.proofs.Common.{arith}
use Rattle.lgp_lab.proofs.BatchLemmas.{batch_done, batch_ends, batch_goes_on}
use Rattle.lgp_lab.proofs.tasks.run_batch.Goals as goal

pub loop-name-init : goal.loop-name-init
loop-name-init g c = λ failures status w rest. rest

pub loop-name-preserved : goal.loop-name-preserved
loop-name-preserved g c = grind (arith, batch_goes_on)

pub returns-then-status-ge-FAILED : goal.returns-then-status-ge-FAILED
returns-then-status-ge-FAILED g c =
    grind (arith, batch_ends)

pub returns : goal.returns
returns g c =
    grind (arith, batch_done)

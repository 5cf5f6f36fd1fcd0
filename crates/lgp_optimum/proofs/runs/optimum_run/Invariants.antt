use Rattle.lgp_debugger.proofs.RunLemmas.{HasRun}
use Rattle.lgp_optimum.specs.OptimumKept.{IsOptimumOf}
use Rattle.lgp_optimum.proofs.runs.optimum_run.Given as goal

abbrev pub invariant-loop-orders : goal.invariant-loop-orders
invariant-loop-orders g l = record {
  run : HasRun (λ rules. rules) l.fn.debugger l.debugger l.orders;
  notes : IsOptimumOf l.optimum l.fn.debugger.state l.orders;
}

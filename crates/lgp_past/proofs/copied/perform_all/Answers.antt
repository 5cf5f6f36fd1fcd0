use Rattle.std.proofs.Common.{arith}
use Rattle.lgp_past.proofs.Orders.{begun_so, performed_so}
use Rattle.lgp_past.proofs.copied.perform_all.Goals as goal

pub loop-init : goal.loop-init
loop-init g c = record { there = begun_so _ c.requires.boundary; within = omega arith }

pub loop-preserved : goal.loop-preserved
loop-preserved g c = record {
  there = performed_so _ _ _ _ c.loop.invariant.there c.in_ok-perform.ensures.performed;
  within = omega (arith, c.loop-test.true);
}

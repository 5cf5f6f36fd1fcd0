use Rattle.std.proofs.Common.{◌≡◌, ◌+◌, ◌<◌, ◌^◌, length}
use Rattle.lgp_exchange.specs.Examined.{fault_from, first_fault}
use Rattle.lgp_exchange.proofs.examined.first_fault.Given as goal

abbrev pub invariant-loop-line : goal.invariant-loop-line
invariant-loop-line l = record {
  can : (goal.iterator-loop-line).can_next l.line-iterator;
  finite : (goal.iterator-loop-line).is_finite l.line-iterator;
  few : l.number + length l.line-iterator < 2 ^ 64;
  fault : fault_from (l.number + 1) l.least l.line-iterator ≡ first_fault l.fn.text;
}

use Rattle.std.proofs.Common.{rules}
use Rattle.lgp_word.proofs.order.decode.Goals as goal

pub invariant_of-order : goal.invariant_of-order
invariant_of-order c = search rules

pub returns-then-eq-clause-value : goal.returns-then-eq-clause-value
returns-then-eq-clause-value c = search rules

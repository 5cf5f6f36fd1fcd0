use Rattle.lgp_trace.proofs.PhaseLaws.{operand_read, order_read}
use Rattle.lgp_trace.proofs.laws.phases_read.Goals as goal

pub returns-clause-order : goal.returns-clause-order
returns-clause-order c = order_read

pub returns-clause-operand : goal.returns-clause-operand
returns-clause-operand c = operand_read

use Rattle.std.proofs.Common.{◌∙◌, ap}
use Rattle.lgp_word.specs.Order.{op_of_letter}
use Rattle.lgp_word.proofs.OrderLemmas.{IfSome-op_of_letter, op_of_letter-op_letter}
use Rattle.lgp_word.proofs.order.Op.of_letter.Goals as goal

pub returns-clause-letter : goal.returns-clause-letter
returns-clause-letter c = IfSome-op_of_letter c.op_of_letter.result c.args.byte c.op_of_letter.ensures

pub returns-clause-undoes_letter : goal.returns-clause-undoes_letter
returns-clause-undoes_letter c = λ op is. c.op_of_letter.ensures ∙ (ap op_of_letter is ∙ op_of_letter-op_letter op)

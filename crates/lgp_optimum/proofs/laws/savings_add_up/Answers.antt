use Rattle.lgp_optimum.proofs.MovedClocks.{savings_add}
use Rattle.lgp_optimum.proofs.laws.savings_add_up.Goals as goal

pub returns : goal.returns
returns c = savings_add

use Rattle.lgp_optimum.proofs.AllMoved.{all_moved}
use Rattle.lgp_optimum.proofs.laws.all_save_the_sum.Goals as goal

pub returns : goal.returns
returns c = all_moved

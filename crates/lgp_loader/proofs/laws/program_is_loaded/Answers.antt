use Rattle.lgp_loader.proofs.Program.{blocks_over, single_over}
use Rattle.lgp_loader.proofs.laws.program_is_loaded.Goals as goal

pub returns-clause-blocks : goal.returns-clause-blocks
returns-clause-blocks c = blocks_over

pub returns-clause-single : goal.returns-clause-single
returns-clause-single c = single_over

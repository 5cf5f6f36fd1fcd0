use Rattle.std.proofs.Common.{rules}
use Rattle.lgp_assembler.proofs.conditions.is_loaders.Goals as goal

pub returns : goal.returns
returns c = search rules

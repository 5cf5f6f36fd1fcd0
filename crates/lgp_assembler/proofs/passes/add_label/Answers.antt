use Rattle.std.proofs.Common.{rules}
use Rattle.lgp_assembler.proofs.passes.add_label.Goals as goal

pub add-requires : goal.add-requires
add-requires g c = search rules

pub returns : goal.returns
returns g c = search rules

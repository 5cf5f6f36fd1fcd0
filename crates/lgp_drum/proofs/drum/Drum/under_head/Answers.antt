use Rattle.std.proofs.Common.{arith}
use Rattle.std.proofs.lemmas.Grind.{common_steps}
use Rattle.lgp_drum.proofs.Cells.{cells_by_address}
use Rattle.lgp_drum.proofs.drum.Drum.under_head.Goals as goal

pub returns : goal.returns
returns g c = grind (arith, common_steps, cells_by_address)

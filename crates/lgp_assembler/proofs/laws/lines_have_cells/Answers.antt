use Rattle.lgp_assembler.proofs.CellLaws.{cells_law}
use Rattle.lgp_assembler.proofs.laws.lines_have_cells.Goals as goal

pub returns : goal.returns
returns c = cells_law

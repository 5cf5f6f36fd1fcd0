use Rattle.std.proofs.Common.{◌≡◌, ◌++◌, drop, map}
use Rattle.std.specs.List.{concat}
use Rattle.lgp_loader.specs.SingleTape.{cell_codes}
use Rattle.lgp_loader.proofs.tape.push_cells.Given as goal

abbrev pub invariant-loop-cell : goal.invariant-loop-cell
invariant-loop-cell g l =
    l.codes.items ++ concat (map cell_codes (drop l.cell-index l.cells)) ≡ l.initial.codes.items ++ concat (map cell_codes l.cells)

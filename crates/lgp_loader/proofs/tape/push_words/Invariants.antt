use Rattle.std.proofs.Common.{◌≡◌, ◌++◌, drop, map}
use Rattle.std.specs.List.{concat}
use Rattle.lgp_loader.specs.BlockTape.{word_of_cell}
use Rattle.lgp_loader.proofs.tape.push_words.Given as goal

abbrev pub invariant-loop-cell : goal.invariant-loop-cell
invariant-loop-cell g l =
    l.codes.items ++ concat (map word_of_cell (drop l.cell-index l.block)) ≡ l.initial.codes.items ++ concat (map word_of_cell l.block)

use Rattle.std.proofs.Common.{◌≡◌, ◌≤◌, ◌++◌, drop, length, map, true}
use Rattle.std.specs.List.{concat}
use Rattle.lgp_loader.specs.BlockTape.{block_codes}
use Rattle.lgp_loader.specs.Cutting.{is_cutting, pieces_of}
use Rattle.lgp_loader.proofs.tape.push_blocks.Given as goal

abbrev pub invariant-loop-count : goal.invariant-loop-count
invariant-loop-count g l =
    (l.codes.items ++ concat (map block_codes (pieces_of (drop l.count-index l.counts) l.left))
    ≡ l.initial.codes.items ++ concat (map block_codes (pieces_of l.counts l.cells)))
    × (is_cutting (drop l.count-index l.counts) l.left ≡ true)
    × (length l.left ≤ 4096)

use Rattle.std.proofs.Common.{◌≡◌, ◌≤◌, ◌++◌, length, map}
use Rattle.std.specs.List.{concat}
use Rattle.lgp_loader.specs.BlockTape.{block_codes}
use Rattle.lgp_loader.specs.Cutting.{longest_blocks}
use Rattle.lgp_loader.proofs.tape.push_longest.Given as goal

abbrev pub invariant-loop-block : goal.invariant-loop-block
invariant-loop-block g l =
    (l.codes.items ++ concat (map block_codes (longest_blocks l.left))
    ≡ l.initial.codes.items ++ concat (map block_codes (longest_blocks l.cells)))
    × (length l.left ≤ 4096)

abbrev pub decreases-loop-block : goal.decreases-loop-block
decreases-loop-block g l = length l.left

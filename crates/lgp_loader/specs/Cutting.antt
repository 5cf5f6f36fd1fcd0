-- Part of the public promise. How the cells of a program are cut into blocks.
use Rattle.std.specs.Prelude.{◌≡◌, ℕ, ◌+◌, ◌==◌, ◌&&◌, if◌then◌else◌, Bool, true, false, List, []}
use Rattle.std.specs.Prelude.{◌∷◌, ◌++◌, drop, length, sum, take}
use Rattle.std.specs.List.{list_all}

-- whether a cell lies one place after another
abbrev pub follows : ℕ × ℕ → ℕ × ℕ → Bool
follows cell next = next.0 == cell.0 + 1

-- a block: one cell or more, each one place after the one before it
abbrev pub is_block : List (ℕ × ℕ) → Bool
is_block [] = false
is_block (cell ∷ []) = true
is_block (cell ∷ (next ∷ cells)) = follows cell next && is_block (next ∷ cells)

abbrev pub are_blocks : List (List (ℕ × ℕ)) → Bool
are_blocks blocks = list_all is_block blocks

-- the cells of blocks, one block after another
abbrev pub cells_of : List (List (ℕ × ℕ)) → List (ℕ × ℕ)
cells_of [] = []
cells_of (block ∷ blocks) = block ++ cells_of blocks

-- the longest blocks: a cell belongs to the block after it where that begins one place on, and
-- else is a block of its own
abbrev pub with_block : ℕ × ℕ → List (List (ℕ × ℕ)) → List (List (ℕ × ℕ))
with_block cell ((next ∷ block) ∷ blocks) =
    if follows cell next then (cell ∷ (next ∷ block)) ∷ blocks
    else (cell ∷ []) ∷ ((next ∷ block) ∷ blocks)
with_block cell blocks = (cell ∷ []) ∷ blocks

abbrev pub longest_blocks : List (ℕ × ℕ) → List (List (ℕ × ℕ))
longest_blocks [] = []
longest_blocks (cell ∷ cells) = with_block cell (longest_blocks cells)

-- no two neighbours would together be one block
abbrev pub StandApart : List (List (ℕ × ℕ)) → Type 0
StandApart [] = Unit {0}
StandApart (block ∷ []) = Unit {0}
StandApart (block ∷ (next ∷ blocks)) =
    (is_block (block ++ next) ≡ false) × StandApart (next ∷ blocks)

-- pieces of a given number of cells each, one after another
abbrev pub pieces_of : List ℕ → List (ℕ × ℕ) → List (List (ℕ × ℕ))
pieces_of [] cells = []
pieces_of (count ∷ counts) cells = take count cells ∷ pieces_of counts (drop count cells)

-- whether the numbers cut the cells into blocks: as many cells as there are, and each piece a block
abbrev pub is_cutting : List ℕ → List (ℕ × ℕ) → Bool
is_cutting counts cells = (sum counts == length cells) && are_blocks (pieces_of counts cells)

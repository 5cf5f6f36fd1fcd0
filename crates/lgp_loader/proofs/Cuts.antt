-- Cells cut into blocks.
use Rattle.std.proofs.Common.{◌≡◌, ℕ, zero, suc, ◌+◌, ◌-◌, ◌<◌, ◌≤◌, ◌==◌, ◌&&◌, Bool, true, false, cond, refl, sym, ap, ◌∙◌, subst, arith, List, [], ◌∷◌, ◌++◌, append_assoc, map, None, length, length-append, length-drop, drop, drop-cons, drop_at, take, take_at, take-append-drop, slice_index_or, sum}
use denote.Ref.{Bor}
use denote.Param.Members.{Mut}
use Rattle.std.specs.Fn.{ComputesOnPairs}
use Rattle.std.specs.Iterator.{Yields}
use Rattle.std.specs.Slice.Iter.{chunk_by_callee, chunk_by_rest, chunk_by_steps}
use Rattle.std.specs.declared.slice.ChunkBy.{ChunkBy}
use Rattle.std.specs.List.{concat, AllAdjacentBelow, IsAllAdjacentAnswer, IsChunkByPrefix}
use Rattle.std.proofs.lemmas.Bool.{and_parts}
use Rattle.std.proofs.lemmas.Bool.Decides.{nat_tests}
use Rattle.std.proofs.lemmas.List.Sums.{sum_by-cons}
use Rattle.lgp_loader.specs.BlockTape.{block_codes}
use Rattle.lgp_loader.specs.Cutting.{StandApart, are_blocks, cells_of, follows, is_block, is_cutting, longest_blocks, pieces_of, with_block}

-- places that follow one another from this one on
abbrev pub FollowFrom : ℕ → List (ℕ × ℕ) → Type 0
FollowFrom place [] = Unit {0}
FollowFrom place (cell ∷ cells) = (cell.0 ≡ place) × FollowFrom (place + 1) cells

pub places_follow : (cell : ℕ × ℕ) (cells : List (ℕ × ℕ)) → is_block (cell ∷ cells) ≡ true → FollowFrom (cell.0 + 1) cells
places_follow cell [] is = tt
places_follow cell (next ∷ cells) is =
    let (here, others) = and_parts (follows cell next) (is_block (next ∷ cells)) is in
    let same : next.0 ≡ cell.0 + 1 = grind (arith, nat_tests) in
    (same, subst (λ place. FollowFrom (place + 1) cells) same (places_follow next cells others))

-- a test of each two neighbours tells whether cells are a block
all_adjacent : (cell : ℕ × ℕ) (cells : List (ℕ × ℕ)) → AllAdjacentBelow (λ x y. true ≡ follows x y) (cell ∷ cells) (length (cell ∷ cells)) → is_block (cell ∷ cells) ≡ true
all_adjacent cell [] all = refl
all_adjacent cell (next ∷ cells) all =
    let here : follows cell next ≡ true = sym (all 0 cell (omega arith)) in
    let others = all_adjacent next cells (λ k d less. subst (λ n. true ≡ follows (slice_index_or (next ∷ cells) k d) (slice_index_or (cell ∷ (next ∷ cells)) n d))
    (let e : suc k + 1 ≡ suc (k + 1) = omega arith in e) (all (suc k) d (omega (arith, less)))) in
    ap (λ b. b && is_block (next ∷ cells)) here ∙ others

some_adjacent : (cell : ℕ × ℕ) (cells : List (ℕ × ℕ)) (k : ℕ) → k + 1 < length (cell ∷ cells)
    → ((d : ℕ × ℕ) → false ≡ follows (slice_index_or (cell ∷ cells) k d) (slice_index_or (cell ∷ cells) (k + 1) d)) → is_block (cell ∷ cells) ≡ false
some_adjacent cell [] k less _ = absurd (let wrong : ⊥ = omega (arith, less) in wrong)
some_adjacent cell (next ∷ cells) zero less apart = ap (λ b. b && is_block (next ∷ cells)) (sym (apart cell))
some_adjacent cell (next ∷ cells) (suc k) less apart =
    let others = some_adjacent next cells k (omega (arith, less)) (λ d. subst (λ n. false ≡ follows (slice_index_or (next ∷ cells) k d) (slice_index_or (cell ∷ (next ∷ cells)) n d))
    (let e : suc k + 1 ≡ suc (k + 1) = omega arith in e) (apart d)) in
    ap (λ b. follows cell next && b) others ∙ never (follows cell next) where
      never : (b : Bool) → b && false ≡ false
      never true = refl
      never false = refl

pub by_neighbours : (cells : List (ℕ × ℕ)) (answer : Bool) → (length cells == 0) ≡ false → IsAllAdjacentAnswer (λ x y b. b ≡ follows x y) cells answer → answer ≡ is_block cells
by_neighbours [] answer some is = absurd (let no : ⊥ = cc in no)
by_neighbours (cell ∷ cells) true some all = sym (all_adjacent _ _ all)
by_neighbours (cell ∷ cells) false some (k, less, apart) = sym (some_adjacent cell _ k less apart)

-- a block has a cell, so there are no more blocks than cells
some_cell : (block : List (ℕ × ℕ)) → is_block block ≡ true → 0 < length block
some_cell [] is = absurd (let no : ⊥ = cc in no)
some_cell (cell ∷ cells) is = omega arith

pub no_more_blocks : (blocks : List (List (ℕ × ℕ))) → are_blocks blocks ≡ true → length blocks ≤ length (cells_of blocks)
no_more_blocks [] are = omega arith
no_more_blocks (block ∷ blocks) are =
    let (is, others) = and_parts (is_block block) (are_blocks blocks) are in
    omega (arith, length-append block (cells_of blocks), some_cell block is, no_more_blocks blocks others)

-- the longest blocks are blocks of these cells
with_block_is : (cell : ℕ × ℕ) (next : ℕ × ℕ) (block : List (ℕ × ℕ)) (blocks : List (List (ℕ × ℕ))) (joins : Bool) → follows cell next ≡ joins
    → with_block cell ((next ∷ block) ∷ blocks) ≡ cond joins ((cell ∷ (next ∷ block)) ∷ blocks) ((cell ∷ []) ∷ ((next ∷ block) ∷ blocks))
with_block_is cell next block blocks joins same = grind arith

with_block_blocks : (cell : ℕ × ℕ) (blocks : List (List (ℕ × ℕ))) → are_blocks blocks ≡ true → are_blocks (with_block cell blocks) ≡ true
with_block_blocks cell [] are = refl
with_block_blocks cell ([] ∷ blocks) are = are
with_block_blocks cell ((next ∷ block) ∷ blocks) are = by_test (follows cell next) refl where
  by_test : (joins : Bool) → follows cell next ≡ joins → are_blocks (with_block cell ((next ∷ block) ∷ blocks)) ≡ true
  by_test true same =
      grind (arith, with_block_is)
  by_test false same = ap are_blocks (with_block_is _ _ _ _ _ same) ∙ are

pub longest_are_blocks : (cells : List (ℕ × ℕ)) → are_blocks (longest_blocks cells) ≡ true
longest_are_blocks [] = refl
longest_are_blocks (cell ∷ cells) = with_block_blocks cell (longest_blocks cells) (longest_are_blocks cells)

-- and no two neighbours join
and_false : (b : Bool) → (b && false) ≡ false
and_false true = refl
and_false false = refl

apart_longer : (cell next : ℕ × ℕ) (block : List (ℕ × ℕ)) (blocks : List (List (ℕ × ℕ))) → StandApart ((next ∷ block) ∷ blocks) → StandApart ((cell ∷ (next ∷ block)) ∷ blocks)
apart_longer cell next block [] apart = tt
apart_longer cell next block (other ∷ blocks) (no_block, others) = (ap (λ b. follows cell next && b) no_block ∙ and_false (follows cell next), others)

with_block_apart : (cell : ℕ × ℕ) (blocks : List (List (ℕ × ℕ))) → are_blocks blocks ≡ true → StandApart blocks → StandApart (with_block cell blocks)
with_block_apart cell [] are apart = tt
with_block_apart cell ([] ∷ blocks) are apart = absurd (let no : ⊥ = cc in no)
with_block_apart cell ((next ∷ block) ∷ blocks) are apart = by_test (follows cell next) refl where
  by_test : (joins : Bool) → follows cell next ≡ joins → StandApart (with_block cell ((next ∷ block) ∷ blocks))
  by_test true same = subst StandApart (sym (with_block_is _ _ _ _ _ same)) (apart_longer cell next _ _ apart)
  by_test false same = grind (arith, with_block_is)

pub longest_stand_apart : (cells : List (ℕ × ℕ)) → StandApart (longest_blocks cells)
longest_stand_apart [] = tt
longest_stand_apart (cell ∷ cells) = with_block_apart _ _ (longest_are_blocks cells) (longest_stand_apart cells)

with_block_cells : (cell : ℕ × ℕ) (blocks : List (List (ℕ × ℕ))) → cells_of (with_block cell blocks) ≡ cell ∷ cells_of blocks
with_block_cells cell [] = refl
with_block_cells cell ([] ∷ blocks) = refl
with_block_cells cell ((next ∷ block) ∷ blocks) = by_test (follows cell next) refl where
  by_test : (joins : Bool) → follows cell next ≡ joins → cells_of (with_block cell ((next ∷ block) ∷ blocks)) ≡ cell ∷ cells_of ((next ∷ block) ∷ blocks)
  by_test true same = ap cells_of (with_block_is _ _ _ _ _ same)
  by_test false same = ap cells_of (with_block_is _ _ _ _ _ same)

pub longest_have_cells : (cells : List (ℕ × ℕ)) → cells_of (longest_blocks cells) ≡ cells
longest_have_cells [] = refl
longest_have_cells (cell ∷ cells) = with_block_cells _ _ ∙ ap (λ more. cell ∷ more) (longest_have_cells _)

-- the first of the longest blocks begins with the first cell
record Begins (cell : ℕ × ℕ) (blocks : List (List (ℕ × ℕ))) : Type 0 where
  block : List (ℕ × ℕ)
  after : List (List (ℕ × ℕ))
  same : blocks ≡ (cell ∷ block) ∷ after

with_block_begins : (cell : ℕ × ℕ) (blocks : List (List (ℕ × ℕ))) → Begins cell (with_block cell blocks)
with_block_begins cell [] = record { block = []; after = []; same = refl }
with_block_begins cell ([] ∷ blocks) = record { block = []; after = [] ∷ blocks; same = refl }
with_block_begins cell ((next ∷ block) ∷ blocks) = by_test (follows cell next) refl where
  by_test : (joins : Bool) → follows cell next ≡ joins → Begins cell (with_block cell ((next ∷ block) ∷ blocks))
  by_test true same = record { block = next ∷ block; after = blocks; same = with_block_is _ _ _ _ _ same }
  by_test false same = grind (arith, with_block_is)

-- cells that follow one another, and after which the next cell does not, are the first of the longest blocks
pub first_longest : (block rest : List (ℕ × ℕ)) → 0 < length block → IsChunkByPrefix follows (block ++ rest) (length block)
    → longest_blocks (block ++ rest) ≡ block ∷ longest_blocks rest
first_longest [] rest some is = absurd (let wrong : ⊥ = omega (arith, some) in wrong)
first_longest (cell ∷ []) [] some is = refl
first_longest (cell ∷ []) (next ∷ rest) some (all, ends) =
    let begins = with_block_begins _ _ in
    let apart : follows cell next ≡ false = ends (omega arith) cell in
    ap (λ blocks. with_block cell blocks) begins.same
    ∙ (with_block_is _ _ _ _ _ apart
    ∙ ap (λ blocks. (cell ∷ []) ∷ blocks) (sym begins.same))
first_longest (cell ∷ (next ∷ block)) rest some (all, ends) =
    let on : longest_blocks ((next ∷ block) ++ rest) ≡ (next ∷ block) ∷ longest_blocks rest =
    first_longest _ _ (omega arith) (
      (λ k d less. subst (λ n. follows (slice_index_or ((next ∷ block) ++ rest) k d) (slice_index_or (cell ∷ ((next ∷ block) ++ rest)) n d) ≡ true)
          (let e : suc k + 1 ≡ suc (k + 1) = omega arith in e) (all (suc k) d (omega (arith, less)))),
      (λ less d. subst (λ n. follows (slice_index_or (cell ∷ ((next ∷ block) ++ rest)) n d) (slice_index_or ((next ∷ block) ++ rest) (length (next ∷ block)) d) ≡ false)
          (let e : length (cell ∷ (next ∷ block)) - 1 ≡ suc (length (next ∷ block) - 1) = omega arith in e) (ends (omega (arith, less)) d)),
    ) in
    let joins : follows cell next ≡ true = all 0 cell (omega arith) in
    ap (λ blocks. with_block cell blocks) on ∙ with_block_is _ _ _ _ _ joins

pub first_chunk : (cells chunks block after front back : List (ℕ × ℕ)) → chunks ≡ cells → chunks ≡ block ++ after → 0 < length block
    → IsChunkByPrefix follows chunks (length block) → front ≡ take (length block) cells → back ≡ drop (length block) cells
    → longest_blocks cells ≡ front ∷ longest_blocks back
first_chunk cells chunks block after front back same parts some is front_is back_is =
    let whole : cells ≡ block ++ after = sym same ∙ parts in
    let front_block : front ≡ block = front_is ∙ (ap (λ cells. take (length block) cells) whole ∙ take_at block after (length block) refl) in
    let back_after : back ≡ after = back_is ∙ (ap (λ cells. drop (length block) cells) whole ∙ drop_at block after (length block) refl) in
    ap longest_blocks whole
    ∙ (first_longest _ _ some (subst (λ cells. IsChunkByPrefix follows cells (length block)) parts is)
    ∙ (ap (λ b. b ∷ longest_blocks after) (sym front_block) ∙ ap (λ b. front ∷ longest_blocks b) (sym back_after)))

no_longest : (cells : List (ℕ × ℕ)) → length cells ≡ 0 → length (longest_blocks cells) ≡ 0
no_longest [] none = refl
no_longest (cell ∷ cells) none = absurd (let wrong : ⊥ = omega (arith, none) in wrong)

-- how many chunks there are
pub as_many_chunks : {F : Type 0} (g : Mut F (Bor (ℕ × ℕ) × (Bor (ℕ × ℕ) × Unit {0})) Bool) (s t u : ChunkBy (ℕ × ℕ) F) (chunks : List (Bor (List (ℕ × ℕ)))) → ComputesOnPairs g follows (chunk_by_callee s)
    → Yields (chunk_by_steps g) s chunks t → chunk_by_steps g t None u → length chunks ≡ length (longest_blocks (chunk_by_rest s))
as_many_chunks g s t u [] by same (none, stays) = sym (no_longest _ (ap (λ s. length (chunk_by_rest s)) same ∙ none))
as_many_chunks g s t u (chunk ∷ chunks) by (next, (parts, some, tests), others) ends =
    let (by_next, prefix) = tests follows by in
    let here : longest_blocks (chunk_by_rest s) ≡ chunk.now ∷ longest_blocks (chunk_by_rest next) =
    ap longest_blocks parts ∙ first_longest _ _ some (subst (λ cells. IsChunkByPrefix follows cells (length chunk.now)) parts prefix) in
    ap suc (as_many_chunks g next t u chunks by_next others ends) ∙ sym (ap length here)

-- the pieces of a cutting
sum_more : (count : ℕ) (counts : List ℕ) → sum (count ∷ counts) ≡ count + sum counts
sum_more count counts = sum_by-cons _ _ counts

pub cutting_more : (count : ℕ) (counts : List ℕ) (cells : List (ℕ × ℕ)) → count ≤ length cells
    → is_cutting (count ∷ counts) cells ≡ is_block (take count cells) && is_cutting counts (drop count cells)
cutting_more count counts cells within =
    let sums = sum_more count counts in
    let left : length (drop count cells) ≡ length cells - count = length-drop count cells in
    let same : (sum (count ∷ counts) == length cells) ≡ (sum counts == length (drop count cells)) = grind (arith, nat_tests) in
    ap (λ b. b && (is_block (take count cells) && are_blocks (pieces_of counts (drop count cells)))) same
    ∙ swapped (sum counts == length (drop count cells)) (is_block (take count cells)) (are_blocks (pieces_of counts (drop count cells))) where
      swapped : (a b c : Bool) → a && (b && c) ≡ b && (a && c)
      swapped true b c = refl
      swapped false true c = refl
      swapped false false c = refl

pub count_dropped : (counts : List ℕ) (place : ℕ) → place < length counts → drop place counts ≡ slice_index_or counts place 0 ∷ drop (place + 1) counts
count_dropped counts place less =
    drop-cons counts place 0 less ∙ ap (λ n. slice_index_or counts place 0 ∷ drop n counts) (let e : suc place ≡ place + 1 = omega arith in e)

-- a piece punched
pub one_piece_more : (count : ℕ) (more counts : List ℕ) (left front back : List (ℕ × ℕ)) (codes new whole : List ℕ) → counts ≡ count ∷ more
    → codes ++ concat (map block_codes (pieces_of counts left)) ≡ whole → is_cutting counts left ≡ true → count ≤ length left
    → front ≡ take count left → back ≡ drop count left → new ≡ codes ++ block_codes front
    → (new ++ concat (map block_codes (pieces_of more back)) ≡ whole) × (is_cutting more back ≡ true)
one_piece_more count more counts left front back codes new whole same all is within front_is back_is new_is =
    let cuts : is_block (take count left) && is_cutting more (drop count left) ≡ true =
    sym (cutting_more _ more _ within) ∙ (ap (λ counts. is_cutting counts left) (sym same) ∙ is) in
    let after = concat (map block_codes (pieces_of more back)) in
    let punched : new ++ after ≡ codes ++ (block_codes (take count left) ++ after) =
    ap (λ new. new ++ after) (new_is ∙ ap (λ front. codes ++ block_codes front) front_is) ∙ append_assoc codes (block_codes (take count left)) after in (
      punched ∙ (ap (λ back. codes ++ (block_codes (take count left) ++ concat (map block_codes (pieces_of more back)))) back_is
          ∙ (ap (λ counts. codes ++ concat (map block_codes (pieces_of counts left))) (sym same) ∙ all)),
      ap (is_cutting more) back_is ∙ (and_parts (is_block (take count left)) (is_cutting more (drop count left)) cuts).1,
    )

pieces_have : (counts : List ℕ) (cells : List (ℕ × ℕ)) → sum counts ≡ length cells → cells_of (pieces_of counts cells) ≡ cells
pieces_have [] [] same = refl
pieces_have [] (cell ∷ cells) same = absurd (let wrong : ⊥ = omega (arith, same) in wrong)
pieces_have (count ∷ counts) cells same =
    let left : length (drop count cells) ≡ length cells - count = length-drop count cells in
    ap (λ more. take count cells ++ more) (pieces_have counts (drop count cells) (omega (arith, sum_more count counts, left, same)))
    ∙ take-append-drop count cells

pub pieces_are_blocks : (counts : List ℕ) (cells : List (ℕ × ℕ)) → is_cutting counts cells ≡ true → are_blocks (pieces_of counts cells) ≡ true
pieces_are_blocks counts cells is = (and_parts (sum counts == length cells) (are_blocks (pieces_of counts cells)) is).1

pub pieces_have_cells : (counts : List ℕ) (cells : List (ℕ × ℕ)) → is_cutting counts cells ≡ true → cells_of (pieces_of counts cells) ≡ cells
pieces_have_cells counts cells is =
    grind (arith, pieces_have)

pub as_many_pieces : (counts : List ℕ) (cells : List (ℕ × ℕ)) → length (pieces_of counts cells) ≡ length counts
as_many_pieces [] cells = refl
as_many_pieces (count ∷ counts) cells = ap suc (as_many_pieces counts (drop count cells))

pub ruleset cutting_laws = (longest_are_blocks, longest_stand_apart, longest_have_cells, pieces_are_blocks, pieces_have_cells)

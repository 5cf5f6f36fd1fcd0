use Rattle.std.proofs.Common.{rules, of_calls}
use Rattle.std.proofs.lemmas.Fn.{always_returns_same}
use Rattle.lgp_loader.specs.Cutting.{follows}
use Rattle.lgp_loader.proofs.Cuts.{first_chunk}
use Rattle.lgp_loader.proofs.cutting.first_block.Goals as goal

pub returns-clause-parts : goal.returns-clause-parts
returns-clause-parts c =
    let (parts, some, tests) = c.in_ok-block.ensures.steps in
    let by = always_returns_same _ _ _ (λ a r f k. search (rules, of_calls)) in
    first_chunk _ _ _ _ _ _ c.chunk_by.ensures.rest parts some
    (tests follows by).1 c.split_at.ensures.front c.split_at.ensures.back

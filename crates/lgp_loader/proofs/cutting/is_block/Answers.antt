use Rattle.std.proofs.Common.{rules, of_calls}
use Rattle.std.proofs.lemmas.Fn.{always_returns_same}
use Rattle.lgp_loader.specs.Cutting.{follows}
use Rattle.lgp_loader.proofs.Cuts.{by_neighbours}
use Rattle.lgp_loader.proofs.cutting.is_block.Goals as goal

pub returns-then-not-is_empty : goal.returns-then-not-is_empty
returns-then-not-is_empty c =
    let by = always_returns_same _ _ _ (λ a r f k. search (rules, of_calls)) in
    by_neighbours _ _ (search rules) (c.is_sorted_by.ensures.cases follows by)

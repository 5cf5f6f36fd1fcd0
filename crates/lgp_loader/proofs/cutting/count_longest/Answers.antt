use Rattle.std.proofs.Common.{rules, of_calls, ◌∙◌, ap, length}
use Rattle.std.proofs.lemmas.Fn.{always_returns_same}
use Rattle.lgp_loader.specs.Cutting.{longest_blocks}
use Rattle.lgp_loader.proofs.Cuts.{as_many_chunks}
use Rattle.lgp_loader.proofs.cutting.count_longest.Goals as goal

pub returns-clause-count : goal.returns-clause-count
returns-clause-count c =
    let (chunks, (u, (t, yields, ends)), same) = c.count.ensures.ran in
    let by = always_returns_same _ _ _ (λ a r f k. search (rules, of_calls)) in
    same ∙ (as_many_chunks _ _ t u _ by yields ends ∙ ap (λ cells. length (longest_blocks cells)) c.chunk_by.ensures.rest)

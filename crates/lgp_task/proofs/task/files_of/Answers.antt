-- All names that the matches hold were taken.
use Rattle.std.proofs.Common.{◌≡◌, ◌∙◌, ap, arith, take, unwrap_or, codes, refl, []}
use Rattle.std.proofs.lemmas.List.{take_all}
use Rattle.std.specs.Prelude.{Option, List, map}
use Rattle.std.specs.Borrow.{Bor}
use Rattle.clap.specs.Words.{Text, found_of}
use Rattle.clap.proofs.WalkLemmas.{raw_values-rows}
use Rattle.lgp_task.proofs.MatchLemmas.{unwrap_or-texts}
use Rattle.lgp_task.proofs.task.files_of.Goals as goal

pub returns : goal.returns
returns g c =
    let texts = ap (λ (s : Bor (List (Bor Text))). map (λ (v : Bor Text). v.now) s.now) c.unwrap_or-name-items.ensures
    ∙ unwrap_or-texts _ _ _ c.get_strs.ensures refl
    ∙ ap (λ (o : Option (List Text)). unwrap_or o []) (raw_values-rows (found_of c.args.matches.now) (codes "FILE")) in
    let all : take c.loop-name.name-index c.unwrap_or-name-items.result.now ≡ c.unwrap_or-name-items.result.now = take_all _ _ (omega arith) in
    c.loop-name.invariant ∙ ap (map (λ (s : Bor Text). s.now)) all ∙ texts

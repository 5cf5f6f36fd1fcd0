use Rattle.std.proofs.Common.{◌∙◌, ◌++◌, List, ℕ, ap}
use Rattle.std.proofs.lemmas.Result.{on_ok_weaker}
use Rattle.lgp_optimum.proofs.GainLemmas.{optimum_reported}
use Rattle.lgp_optimum.proofs.lines.push_optimum.Goals as goal

pub returns-clause-of_run : goal.returns-clause-of_run
returns-clause-of_run g c = λ s count is.
    on_ok_weaker c.push_moves.result
    (λ reported. reported ∙ ap (λ (t : List ℕ). c.args.text.now.items ++ t) (optimum_reported (g.L.Labels.label c.args.labels.now) c.args.orders c.args.optimum.now s count is))
    c.push_moves.ensures

use Rattle.std.proofs.Common.{◌∙◌, ◌++◌, List, ℕ, ap}
use Rattle.std.proofs.lemmas.Result.{on_ok_weaker}
use Rattle.lgp_data.proofs.OptimumRecords.{optimum_records}
use Rattle.lgp_data.proofs.optimum_data.push_optimum_data.Goals as goal

pub returns-clause-of_run : goal.returns-clause-of_run
returns-clause-of_run g c = λ s count is.
    on_ok_weaker c.push_moves.result
    (λ written. written ∙ ap (λ (t : List ℕ). c.args.text.now.items ++ t) (optimum_records c.args.form c.args.names.now c.args.orders c.args.optimum.now s count is))
    c.push_moves.ensures

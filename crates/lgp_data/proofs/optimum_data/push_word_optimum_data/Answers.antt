use Rattle.std.proofs.Common.{◌∙◌, ◌++◌, List, ℕ, ap, arith}
use Rattle.std.proofs.lemmas.Result.{on_ok_weaker}
use Rattle.lgp_data.proofs.OptimumRecords.{word_records}
use Rattle.lgp_data.proofs.optimum_data.push_word_optimum_data.Goals as goal

pub returns-clause-of_run : goal.returns-clause-of_run
returns-clause-of_run g c = λ s count is.
    on_ok_weaker c.push_word_moves.result
    (λ written. written ∙ ap (λ (t : List ℕ). c.args.text.now.items ++ t) (word_records c.args.form c.args.names.now c.args.orders c.args.optimum.now s count c.args.word is (omega arith)))
    c.push_word_moves.ensures

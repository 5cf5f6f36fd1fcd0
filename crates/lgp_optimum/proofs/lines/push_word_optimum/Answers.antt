use Rattle.std.proofs.Common.{◌∙◌, ◌++◌, List, ℕ, ap, arith}
use Rattle.std.proofs.lemmas.Result.{on_ok_weaker}
use Rattle.lgp_optimum.proofs.GainLemmas.{word_reported}
use Rattle.lgp_optimum.proofs.lines.push_word_optimum.Goals as goal

pub returns-clause-of_run : goal.returns-clause-of_run
returns-clause-of_run g c = λ s count is.
    on_ok_weaker c.push_word_moves.result
    (λ reported. reported ∙ ap (λ (t : List ℕ). c.args.text.now.items ++ t) (word_reported (g.L.Labels.label c.args.labels.now) c.args.orders c.args.optimum.now s count c.args.word is (omega arith)))
    c.push_word_moves.ensures

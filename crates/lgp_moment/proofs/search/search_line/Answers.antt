use Rattle.std.proofs.Common.{◌≡◌, rules}
use Rattle.std.proofs.lemmas.Result.{on_ok_weaker}
use Rattle.lgp_moment.specs.Moment.{orders_in}
use Rattle.lgp_moment.proofs.SearchLemmas.{line_searched}
use Rattle.lgp_moment.proofs.search.search_line.Goals as goal

pub returns-in_default : goal.returns-in_default
returns-in_default g c = λ text kept.
    let none : orders_in c.args.session.now.state c.args.line.now ≡ 0 = search rules in
    on_ok_weaker c.answer_kept.result
    (λ answered. line_searched c.args.session.now c.answer_kept.new.self c.args.line.now c.args.search.now none answered.after)
    (c.answer_kept.ensures text kept)

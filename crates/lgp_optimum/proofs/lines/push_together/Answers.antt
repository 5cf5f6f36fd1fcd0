use Rattle.std.proofs.Common.{◌≡◌, ◌++◌, codes}
use Rattle.std.proofs.lemmas.Result.{on_ok_weaker}
use Rattle.lgp_optimum.specs.Gains.{moves_in}
use Rattle.lgp_optimum.proofs.GainLemmas.{together_reported}
use Rattle.lgp_optimum.proofs.lines.push_together.Goals as goal

pub returns : goal.returns
returns g c =
    let begun : c.extend_from_slice.new.self.items ≡ c.args.text.now.items ++ codes "  all words that may be moved together" = c.in_ok-extend_from_slice.ensures.items in
    on_ok_weaker c.push_share.result
    (λ reported. together_reported (moves_in c.args.optimum.now) c.args.text.now.items _ _ c.together.result c.took.result begun c.together.ensures.exact c.took.ensures reported)
    c.push_share.ensures

use Rattle.std.proofs.Common.{rules}
use Rattle.lgp_trace.proofs.Sums.{nothing_profiled}
use Rattle.lgp_trace.proofs.profile.Profile.new.Goals as goal

pub returns : goal.returns
returns g c = nothing_profiled _ _ c.only_act.ensures (c.in_ok-vec.ensures.items_if_clones_equal (λ y same. search rules))

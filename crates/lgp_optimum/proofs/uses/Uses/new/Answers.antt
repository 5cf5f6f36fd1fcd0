use Rattle.std.proofs.Common.{rules}
use Rattle.lgp_optimum.specs.UsesInside.{no_uses}
use Rattle.lgp_optimum.proofs.uses.Uses.new.Goals as goal

pub returns : goal.returns
unfolding no_uses
returns g c = c.in_ok-vec.ensures.items_if_clones_equal (λ y same. search rules)

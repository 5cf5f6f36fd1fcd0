use Rattle.std.proofs.Common.{rules}
use Rattle.lgp_optimum.proofs.TurnsLemmas.{no_turns_as, none_turned_as}
use Rattle.lgp_optimum.proofs.turns.Turns.new.Goals as goal

pub invariant_of-result : goal.invariant_of-result
invariant_of-result g c =
    none_turned_as _ _ (c.in_ok-vec.ensures.items_if_clones_equal (λ y same. search rules))
    (c.in_ok-vec-2.ensures.items_if_clones_equal (λ y same. search rules))

pub returns : goal.returns
returns g c =
    no_turns_as _ _ (c.in_ok-vec.ensures.items_if_clones_equal (λ y same. search rules))
    (c.in_ok-vec-2.ensures.items_if_clones_equal (λ y same. search rules))

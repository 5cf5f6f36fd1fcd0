use Rattle.std.proofs.Common.{rules}
use Rattle.lgp_history.proofs.NotingLemmas.{nothing_noted}
use Rattle.lgp_history.proofs.records.Records.new.Goals as goal

pub invariant_of-result : goal.invariant_of-result
invariant_of-result g c =
    nothing_noted _ _ _ c.requires.some c.in_ok-records.ensures (c.in_ok-changes.ensures.items_if_clones_equal (λ y same. search rules))

use Rattle.std.proofs.Common.{ap, arith, ◌≤◌, length, List, drop_of_length-le}
use Rattle.lgp_history.specs.RecordedInside.{Recorded, orders_recorded}
use Rattle.lgp_history.proofs.KeptSteps.{bool_byte-few, bool_byte-order}
use Rattle.lgp_history.proofs.RecordedSteps.{drop-next}
use Rattle.lgp_history.proofs.records.count_orders.Goals as goal

pub loop-index-preserved : goal.loop-index-preserved
loop-index-preserved g c =
    grind (arith, drop-next, bool_byte-order, bool_byte-few)

pub returns : goal.returns
returns g c =
    let rs = c.args.records.now.items in
    let past : length rs ≤ c.loop-index.index = omega arith in
    let none = ap (λ (xs : List Recorded). orders_recorded xs) (drop_of_length-le rs past) in
    omega (arith, none)

use Rattle.std.proofs.Common.{sym, arith}
use Rattle.lgp_history.specs.CheckpointsInside.{start_of}
use Rattle.lgp_history.proofs.KeptSteps.{bool_byte-few, bool_byte-order}
use Rattle.lgp_history.proofs.Trails.{kept_to-none, nothing_within, orders_to-next}
use Rattle.lgp_history.proofs.checkpoints.orders_from.Goals as goal

pub loop-place-init : goal.loop-place-init
loop-place-init g c =
    grind (arith, kept_to-none)

pub unreachable-requires : goal.unreachable-requires
unreachable-requires g c = grind (arith, nothing_within)

pub loop-place-preserved : goal.loop-place-preserved
loop-place-preserved g c =
    let es = c.args.trail.now.items in
    let count = bool_byte-order _ _ c.is_order.ensures in
    let few = bool_byte-few c.is_order.result in
    let next = orders_to-next (start_of es) es c.args.passed c.loop-place.place c.in-Some.noted.now c.loop-place.auto.place (sym c.in-Some.ensures) in
    record { few = omega arith; so_far = omega arith }

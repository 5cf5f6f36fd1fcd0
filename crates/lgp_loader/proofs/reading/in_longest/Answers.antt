use Rattle.std.proofs.Common.{length, subst}
use Rattle.lgp_loader.specs.LoadedOver.{IsLoadedOver}
use Rattle.lgp_loader.specs.Loading.{TapeLoad, loaded}
use Rattle.lgp_loader.specs.ReadyInside.{IsReady}
use Rattle.lgp_loader.proofs.Loads.{longest_orders, longest_over, longest_ready, same_load}
use Rattle.lgp_loader.proofs.reading.in_longest.Goals as goal

pub returns-clause-orders : goal.returns-clause-orders
returns-clause-orders g c =
    longest_orders c.args.image.now _ _ _
    c.program_cells-cells.ensures.cells c.count_longest.ensures.count c.orders_for-orders.ensures

pub returns-clause-ready : goal.returns-clause-ready
returns-clause-ready g c =
    let known = c.program_cells-cells.ensures in
    let orders = longest_orders c.args.image.now _ _ _
    known.cells c.count_longest.ensures.count c.orders_for-orders.ensures in
    let same = same_load _ _ _ c.in_ok-tape.ensures.tape orders in
    λ s long. subst (IsReady s) same (longest_ready s c.args.image.now long known.program known.few known.start)

pub returns-clause-program : goal.returns-clause-program
returns-clause-program g c =
    let known = c.program_cells-cells.ensures in
    let orders = longest_orders c.args.image.now _ _ _
    known.cells c.count_longest.ensures.count c.orders_for-orders.ensures in
    let same = same_load _ _ _ c.in_ok-tape.ensures.tape orders in
    λ s long. subst (λ (load : TapeLoad). IsLoadedOver (length load.loader) s.core.words (loaded s load).core.words c.args.image.now.cells) same (longest_over s c.args.image.now long known.program known.places known.start)

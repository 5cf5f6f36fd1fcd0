use Rattle.std.proofs.Common.{arith, true, length, ◌≡◌, subst}
use Rattle.std.proofs.lemmas.Grind.{common_steps}
use Rattle.lgp_loader.specs.Cutting.{is_cutting}
use Rattle.lgp_loader.specs.LoadedOver.{IsLoadedOver}
use Rattle.lgp_loader.specs.Loading.{TapeLoad, loaded}
use Rattle.lgp_loader.specs.ReadyInside.{IsReady}
use Rattle.lgp_loader.proofs.Loads.{cut_orders, cut_over, cut_ready, same_load}
use Rattle.lgp_loader.proofs.reading.in_cut.Goals as goal

pub returns-clause-orders : goal.returns-clause-orders
returns-clause-orders g c =
    grind (arith, cut_orders)

pub returns-clause-ready : goal.returns-clause-ready
returns-clause-ready g c =
    let known = c.program_cells.ensures in
    let cut : is_cutting c.args.counts.now c.args.image.now.cells ≡ true = grind (arith, common_steps) in
    let orders = cut_orders c.args.image.now _ _ _ cut c.program_cells.ensures.cells c.orders_for.ensures in
    let same = same_load _ _ _ c.in_ok-tape.ensures.tape orders in
    λ s long. subst (IsReady s) same (cut_ready s c.args.image.now _ long cut known.program known.few known.start)

pub returns-clause-program : goal.returns-clause-program
returns-clause-program g c =
    let known = c.program_cells.ensures in
    let cut : is_cutting c.args.counts.now c.args.image.now.cells ≡ true = grind (arith, common_steps) in
    let orders = cut_orders c.args.image.now _ _ _ cut c.program_cells.ensures.cells c.orders_for.ensures in
    let same = same_load _ _ _ c.in_ok-tape.ensures.tape orders in
    λ s long. subst (λ (load : TapeLoad). IsLoadedOver (length load.loader) s.core.words (loaded s load).core.words c.args.image.now.cells) same (cut_over s c.args.image.now _ long cut known.program known.places known.start)

use Rattle.std.proofs.Common.{length, rules, subst}
use Rattle.lgp_loader.specs.LoadedOver.{IsLoadedOver}
use Rattle.lgp_loader.specs.Loading.{TapeLoad, loaded}
use Rattle.lgp_loader.proofs.Loads.{same_load, single_ready}
use Rattle.lgp_loader.proofs.Program.{single_over}
use Rattle.lgp_loader.proofs.reading.in_single.Goals as goal

pub returns-clause-ready : goal.returns-clause-ready
returns-clause-ready g c =
    search (rules, same_load, single_ready)

pub returns-clause-program : goal.returns-clause-program
returns-clause-program g c =
    let known = c.program_cells.ensures in
    let same = same_load _ _ _ c.in_ok-tape.ensures.tape (search rules) in
    λ s long. subst (λ (load : TapeLoad). IsLoadedOver (length load.loader) s.core.words (loaded s load).core.words c.args.image.now.cells) same (single_over s _ long known.program known.places known.start)

use Rattle.std.proofs.Common.{refl}
use Rattle.lgp_assembler.proofs.Assembled.{faults_reported, image_made, ok_image, ok_faultless, err_faults, cells_apart, cells_clear}
use Rattle.lgp_assembler.proofs.assemble.Goals as goal

pub returns : goal.returns
returns g c =
    let source = c.args.source.now in
    let scan = c.in_ok-scan.scan in
    let draft = c.in_ok-draft.draft in
    let reported = faults_reported source scan.lines scan.place scan.ended scan.names draft.faults.items draft.parts.cells.items draft.parts.start draft.parts.symbols.items c.in_ok-scan.ensures.stands c.in_ok-draft.ensures in
    let made = image_made source scan.lines scan.place scan.ended scan.names draft.faults.items draft.parts.cells.items draft.parts.start draft.parts.symbols.items c.in_ok-scan.ensures.stands c.in_ok-draft.ensures in
    let r = c.image_or_faults.result in
    let answer = c.image_or_faults.ensures in
    record {
      image = ok_image r _ _ _ answer.image answer.faultless made;
      faultless = ok_faultless r _ _ answer.faultless reported;
      faults = err_faults r _ _ answer.faults reported;
      faulty = answer.faulty;
    }

pub image_or_faults-requires-clause-program : goal.image_or_faults-requires-clause-program
image_or_faults-requires-clause-program g c =
    λ none. cells_clear _ _ _ _ _ _ _ _ c.in_ok-draft.ensures refl none

pub image_or_faults-requires-clause-places : goal.image_or_faults-requires-clause-places
image_or_faults-requires-clause-places g c =
    λ none. cells_apart _ _ _ _ _ _ _ _ c.in_ok-draft.ensures refl none

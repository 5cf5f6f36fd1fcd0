use Rattle.lgp_optimum.proofs.UsesLemmas.{uses_more}
use Rattle.lgp_optimum.proofs.uses.Uses.note.Goals as goal

pub returns : goal.returns
returns g c = λ s count uses stood waited.
    uses_more s count c.args.self.now c.args.place.now c.args.operand.now uses stood waited c.note_place.ensures.within c.note_operand.ensures.within _ _
    c.note_operand.ensures.uses c.note_place.ensures.uses

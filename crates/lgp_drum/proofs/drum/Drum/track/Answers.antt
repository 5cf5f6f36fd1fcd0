use Rattle.lgp_drum.proofs.Cells.{cell_on_track}
use Rattle.lgp_drum.proofs.drum.Drum.track.Goals as goal

pub returns-clause-words : goal.returns-clause-words
returns-clause-words g c sector on_track =
    simp (c.from-first.ensures, c.deref.ensures.value, ← c.self.view_is) (cell_on_track c.self.inside.cells.items c.args.track sector c.requires on_track)

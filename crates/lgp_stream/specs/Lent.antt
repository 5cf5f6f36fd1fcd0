-- Part of the public promise: a recorder whose lines are answered by something that is lent out.
use Rattle.std.specs.Borrow.{Fml, Lends, MutBor, RattleType}
use Rattle.std.specs.declared.alloc.Allocator.{Ghosts}
use Rattle.lgp_stream.specs.Transcript.{Recorded, with_state}
use Rattle.lgp_stream.specs.contracts.recorder.Recorder.{the_row}

module _ (L A : RattleType) (alloc : Ghosts A.Denot) (recorder : MutBor (Recorded L.Denot)) where
  -- its state is that in which what was lent is left
  abbrev pub lends_answers : MutBor L.Denot → Fml
  lends_answers answers = Lends (the_row L A alloc) L recorder answers (with_state recorder.now)

use Rattle.std.proofs.Common.{ℕ, List, Option, drop}
use Rattle.lgp_lab.specs.Tasks.{Failures, IsBatch}
use Rattle.lgp_lab.proofs.tasks.run_batch.Given as goal

abbrev pub invariant-loop-name : goal.invariant-loop-name
invariant-loop-name g l = (failures : Failures) (status : ℕ) (w : Option (List ℕ))
    → IsBatch (g.F.Folder.opens l.folder) (g.F.Folder.contents l.folder) failures l.worst (drop l.name-index l.names) status (g.W.Sink.contents l.writer) w
    → IsBatch (g.F.Folder.opens l.fn.folder) (g.F.Folder.contents l.fn.folder) failures 0 l.names status (g.W.Sink.contents l.fn.writer) w

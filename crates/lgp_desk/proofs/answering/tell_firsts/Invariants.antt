use Rattle.lgp_desk.specs.Files.{ByCalls}
use Rattle.lgp_desk.specs.ServedInside.{HasToldFirsts}
use Rattle.lgp_desk.proofs.answering.tell_firsts.Given as goal

abbrev pub invariant-loop-name : goal.invariant-loop-name
invariant-loop-name g l = ByCalls g.F.Files.answer l.fn.files l.files (λ calls. HasToldFirsts calls l.fn.desk l.desk l.names l.name-index (g.W.Sink.contents l.fn.writer) (g.W.Sink.contents l.writer))

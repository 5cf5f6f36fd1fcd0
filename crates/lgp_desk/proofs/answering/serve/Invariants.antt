use Rattle.lgp_desk.specs.Files.{ByCalls}
use Rattle.lgp_desk.specs.ServedInside.{IsServing}
use Rattle.lgp_desk.proofs.answering.serve.Given as goal

abbrev pub invariant-loop-step : goal.invariant-loop-step
invariant-loop-step g l = ByCalls g.F.Files.answer l.fn.files l.files (λ calls. IsServing calls l.fn.desk l.desk (g.W.Sink.contents l.fn.writer) (g.W.Sink.contents l.writer))

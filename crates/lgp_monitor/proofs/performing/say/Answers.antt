use Rattle.std.proofs.lemmas.Result.{on_ok_weaker}
use Rattle.lgp_stream.proofs.AnswerLemmas.{on_ok_always}
use Rattle.lgp_monitor.proofs.PerformingLemmas.{said_line, still_outside}
use Rattle.lgp_monitor.proofs.performing.say.Goals as goal

pub returns-clause-answered : goal.returns-clause-answered
returns-clause-answered g c =
    on_ok_weaker c.push_reply.result
    (λ is. said_line _ _ _ _ _ _ _ _ c.requires.outside c.in_ok-said.ensures c.answers.ensures is)
    c.push_reply.ensures

pub returns-clause-outside : goal.returns-clause-outside
returns-clause-outside g c =
    on_ok_always c.push_reply.result (still_outside _ _ _ _ _ c.requires.outside c.requires.closed c.in_ok-said.ensures)

use Rattle.lgp_call.specs.Session.{closing_refused, closing_reply}
use Rattle.lgp_call.proofs.GivenLemmas.{given-reply}
use Rattle.lgp_call.proofs.session.Session.close_into.Goals as goal

pub returns-in-Ok : goal.returns-in-Ok
returns-in-Ok g c =
    given-reply (closing_refused c.args.self) c.end.new.self.refused (closing_reply c.args.self) c.end.new.self.reply _ _ _ _ c.in-Ok.ensures.refused c.in-Ok.ensures.reply c.give_reply.ensures

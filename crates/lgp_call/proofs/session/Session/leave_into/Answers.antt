use Rattle.std.proofs.Common.{◌||◌, ap, ◌∙◌}
use Rattle.lgp_desk.specs.Desk.{Seat, closing_refuses, closing_text}
use Rattle.lgp_call.specs.Session.{SessionState}
use Rattle.lgp_call.proofs.GivenLemmas.{forgotten-closing, given-reply}
use Rattle.lgp_call.proofs.session.Session.leave_into.Goals as goal

pub returns-in-Ok : goal.returns-in-Ok
returns-in-Ok g c =
    given-reply (closing_refuses c.args.self.seat) c.has_refused.result (closing_text c.args.self.seat) c.in-Ok.text.items _ _ _ _
    (c.has_refused.ensures ∙ (c.in-Ok.ensures.refused
    ∙ (ap (λ (seat : Seat). seat.has_refused || closing_refuses seat) c.forget_refusals.ensures
    ∙ ap (λ (session : SessionState). closing_refuses session.seat) c.self.view_is)))
    (c.in-Ok.ensures.text ∙ (ap closing_text c.forget_refusals.ensures ∙ (forgotten-closing _ ∙ ap (λ (session : SessionState). closing_text session.seat) c.self.view_is)))
    c.give_reply.ensures

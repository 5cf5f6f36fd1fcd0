use Rattle.std.proofs.Common.{◌≡◌, ◌∙◌, ◌+◌, ◌-◌, ap, arith}
use Rattle.lgp_desk.specs.Desk.{Seat}
use Rattle.lgp_call.specs.Session.{SessionState}
use Rattle.lgp_call.specs.Telling.{forgetful}
use Rattle.lgp_call.proofs.GivenLemmas.{nothing-told}
use Rattle.lgp_call.proofs.session.Session.told.Goals as goal

pub returns-in_default-clause-after : goal.returns-in_default-clause-after
returns-in_default-clause-after g c =
    let is : c.args.what ≡ 10 + (c.args.what - 10) = grind (arith, c.in_default) in
    ap (λ (seat : Seat). seat) c.forget_refusals.ensures
    ∙ (ap (λ (session : SessionState). forgetful session.seat) c.self.view_is
    ∙ nothing-told c.args.self.now c.args.what c.args.text.now is)

-- The orders of a hit are kept, so the history goes back that many.
use Rattle.std.proofs.Common.{◌∙◌, Err, ap, arith, sym}
use Rattle.lgp_debugger.proofs.HitLemmas.{last_hit-within}
use Rattle.lgp_debugger.proofs.debugger.Debugger.last_hit.Goals as goal

pub back-requires-clause-some : goal.back-requires-clause-some
back-requires-clause-some g c =
    let kept = g.H.History.steps c.self.inside.history c.self.inside.machine.state in
    (last_hit-within c.as_slice.result.now kept _ _ (sym c.in-Ok.ensures ∙ c.in-Some.is)).0

pub unreachable-requires : goal.unreachable-requires
unreachable-requires g c =
    let kept = g.H.History.steps c.self.inside.history c.self.inside.machine.state in
    let within = (last_hit-within c.as_slice.result.now kept c.in-Some.hit.0 c.in-Some.hit.1 (sym c.in-Ok.ensures ∙ c.in-Some.is)).1 in
    let too_far = (c.back.ensures.too_far c.in-Err-TooFar.field-0-0).0 (c.in-Err-TooFar.is ∙ ap Err c.in-Err-TooFar.field-0-is) in
    omega (arith, within, too_far.0, too_far.1)

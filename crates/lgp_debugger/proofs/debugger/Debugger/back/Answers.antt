-- What the history answers, in the debugger's words.
use Rattle.std.proofs.Common.{◌≡◌, ◌<◌, ◌↔◌, ℕ, Err, ap, subst}
use Rattle.lgp_history.specs.Steps.{orders_in}
use Rattle.lgp_history.specs.declared.history.BackFault.{BackFault}
use Rattle.lgp_debugger.specs.Debugging.{Debugging}
use Rattle.lgp_debugger.proofs.debugger.Debugger.back.Goals as goal

pub returns-clause-too_far : goal.returns-clause-too_far
returns-clause-too_far g c = λ kept.
    let TooFarAt : ℕ → Type 0 = λ orders. (c.back.result ≡ Err (BackFault.TooFar kept)) ↔ ((kept ≡ orders) × (kept < c.args.orders)) in
    let kept_is = ap (λ (d : Debugging). orders_in d.steps) c.self.view_is in
    subst TooFarAt kept_is (c.back.ensures.too_far kept)

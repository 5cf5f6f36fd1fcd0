use Rattle.std.proofs.Common.{◌≡◌, ap, arith, ◌∙◌}
use Rattle.lgp_history.specs.Step.{Idle}
use Rattle.lgp_debugger.specs.Debugging.{Debugging, after_step}
use Rattle.lgp_past.specs.Past.{Past, with_event}
use Rattle.lgp_past.proofs.PastLemmas.{noted_event}
use Rattle.lgp_past.proofs.timeline.Timeline.idle.Goals as goal

pub invariant_of-self-2 : goal.invariant_of-self-2
invariant_of-self-2 g c =
    let rested : c.idle-2.new.self ≡ after_step c.self.inside.debugger (Idle c.args.times) = grind (arith, c.in_ok-idle.ensures.rested, c.if-times-eq0.false) in
    noted_event _ _ c.self.inside.past.story (Idle c.args.times) c.note_step.new.self c.self.invariant (ap (λ (d : Debugging). d.state) rested)
    (ap (λ (p : Past). p.story) c.note_step.ensures ∙ ap (λ (p : Past). with_event p.story (Idle c.args.times)) c.in-Ok.ensures.room)

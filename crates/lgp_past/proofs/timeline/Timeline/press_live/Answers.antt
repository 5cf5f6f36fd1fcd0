use Rattle.std.proofs.Common.{◌≡◌, ap, arith, ◌∙◌}
use Rattle.lgp_history.specs.Step.{Press}
use Rattle.lgp_debugger.specs.Debugging.{Debugging, after_step}
use Rattle.lgp_past.specs.Past.{Past, with_event}
use Rattle.lgp_past.proofs.PastLemmas.{noted_event}
use Rattle.lgp_past.proofs.timeline.Timeline.press_live.Goals as goal

pub invariant_of-self-2 : goal.invariant_of-self-2
invariant_of-self-2 g c =
    let pressed : c.press.new.self ≡ after_step c.self.inside.debugger (Press c.args.action.now) = grind (arith, c.in_ok-press.ensures.pressed, c.requires, c.self.view_is) in
    noted_event _ _ c.self.inside.past.story (Press c.args.action.now) c.note_step.new.self c.self.invariant (ap (λ (d : Debugging). d.state) pressed)
    (ap (λ (p : Past). p.story) c.note_step.ensures ∙ ap (λ (p : Past). with_event p.story (Press c.args.action.now)) c.in_ok-make_room.ensures.room)

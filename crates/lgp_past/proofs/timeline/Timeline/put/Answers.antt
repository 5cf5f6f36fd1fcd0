use Rattle.std.proofs.Common.{ap, ◌∙◌}
use Rattle.lgp_history.specs.Step.{Put}
use Rattle.lgp_debugger.specs.Debugging.{Debugging}
use Rattle.lgp_past.specs.Past.{Past, with_event}
use Rattle.lgp_past.proofs.PastLemmas.{noted_event}
use Rattle.lgp_past.proofs.timeline.Timeline.put.Goals as goal

pub invariant_of-self-2 : goal.invariant_of-self-2
invariant_of-self-2 g c =
    noted_event _ _ c.self.inside.past.story (Put c.args.address c.args.word) c.note_step.new.self c.self.invariant (ap (λ (d : Debugging). d.state) c.in_ok-put.ensures.put)
    (ap (λ (p : Past). p.story) c.note_step.ensures ∙ ap (λ (p : Past). with_event p.story (Put c.args.address c.args.word)) c.in-Ok.ensures.room)

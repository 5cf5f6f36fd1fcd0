use Rattle.std.proofs.Common.{ap, sym, ◌∙◌}
use Rattle.lgp_history.specs.Step.{Mount}
use Rattle.lgp_history.specs.Steps.{stepped}
use Rattle.lgp_debugger.specs.Debugging.{Debugging}
use Rattle.lgp_past.specs.Past.{Past, with_event}
use Rattle.lgp_past.proofs.PastLemmas.{noted_event}
use Rattle.lgp_past.proofs.timeline.Timeline.mount.Goals as goal

pub invariant_of-self-2 : goal.invariant_of-self-2
invariant_of-self-2 g c =
    noted_event _ _ c.self.inside.past.story (Mount c.in-Ok.copy) c.note_step.new.self c.self.invariant
    (ap (λ (d : Debugging). d.state) c.in_ok-mount.ensures.mounted ∙ ap (λ codes. stepped (Mount codes) c.self.inside.debugger.state) (c.into_codes-2.ensures ∙ sym c.in-Ok.ensures.copy))
    (ap (λ (p : Past). p.story) c.note_step.ensures ∙ ap (λ story. with_event story (Mount c.in-Ok.copy)) c.in-Ok.ensures.same)

use Rattle.std.proofs.Common.{ap, sym, ◌∙◌}
use Rattle.lgp_table.specs.Interleaving.{Configuration, at_boundary}
use Rattle.lgp_debugger.specs.Debugging.{Debugging}
use Rattle.lgp_past.specs.Past.{Past, present, state_at}
use Rattle.lgp_past.specs.Timeline.{Timeline}
use Rattle.lgp_past.proofs.PastLemmas.{present_until}
use Rattle.lgp_past.proofs.timeline.Timeline.stand_at.Goals as goal

pub invariant_of-self : goal.invariant_of-self
invariant_of-self g c =
    let there = c.requires.there ∙ ap (λ (t : Timeline). at_boundary (state_at t.story c.args.order)) (sym c.self.view_is) in
    ap (λ (d : Debugging). d.state) c.go_on_with.ensures ∙ ap (λ (m : Configuration). m.state) there
    ∙ present_until c.self.inside.past.story c.args.order ∙ ap (λ (p : Past). present p.story) (sym c.forget_after.ensures)

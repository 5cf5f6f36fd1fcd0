use Rattle.std.proofs.Common.{[], ap, false, sym, ◌∙◌}
use Rattle.lgp_table.specs.Interleaving.{Configuration}
use Rattle.lgp_debugger.specs.Debugging.{Debugging}
use Rattle.lgp_past.specs.Past.{Past, present}
use Rattle.lgp_past.proofs.PastLemmas.{past_of, present_first}
use Rattle.lgp_past.proofs.timeline.Timeline.new.Goals as goal

pub invariant_of-result : goal.invariant_of-result
invariant_of-result g c =
    ap (λ (d : Debugging). d.state) c.new-debugger.ensures ∙ present_first c.in_ok-machine.machine.state
    ∙ ap (λ (m : Configuration). present (past_of m.state [] 0 false).story) (sym c.in_ok-copy.ensures) ∙ ap (λ (p : Past). present p.story) (sym c.in_ok-past.ensures)

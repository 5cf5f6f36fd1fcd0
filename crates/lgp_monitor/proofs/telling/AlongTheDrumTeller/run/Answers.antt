use Rattle.std.proofs.Common.{◌≡◌, ◌∙◌, ◌++◌, ap, rules}
use Rattle.lgp_machine.specs.declared.look.Look.{Look}
use Rattle.lgp_debugger.specs.Debugging.{Debugging}
use Rattle.lgp_debugger.proofs.PerformedLemmas.{performed_state}
use Rattle.lgp_trace.specs.DrumRows.{rows_begun, rows_ended}
use Rattle.lgp_monitor.proofs.Pictures.{both, pictured_all}
use Rattle.lgp_monitor.proofs.telling.AlongTheDrumTeller.run.Goals as goal

pub returns-clause-reported : goal.returns-clause-reported
returns-clause-reported g c =
    let outcome = c.draw_run-outcome.result in
    let begun : c.push_rows_begun.new.text.items ≡ c.args.text.now.items ++ rows_begun c.look.result.clock = search rules in
    let ended : c.push_rows_ended.new.text.items ≡ c.draw_run-outcome.new.text.items ++ rows_ended c.look-2.result.clock = search rules in
    both outcome _ _ _
    (λ reported stands. pictured_all _ _ _ _ _ _ _ _ _
    c.draw_run-outcome.new.text.items c.push_rows_ended.new.text.items (ap (λ (l : Look). l.clock) c.look.ensures) (ap (λ (l : Look). l.clock) c.look-2.ensures) begun reported
    (ap (λ (d : Debugging). d.state) stands ∙ performed_state _ _) ended)
    c.draw_run-outcome.ensures.seen c.draw_run-outcome.ensures.performed

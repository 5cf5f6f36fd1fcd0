-- The clock after a run whose orders are added up in a profile.
use Rattle.std.proofs.Common.{◌≡◌, ◌∙◌, ℕ, ◌+◌, List, ap, arith}
use Rattle.std.specs.Prelude.{Result}
use Rattle.lgp_table.specs.After.{after}
use Rattle.lgp_history.specs.declared.rule.Rule.{Rule}
use Rattle.lgp_debugger.specs.Debugging.{Debugging}
use Rattle.lgp_debugger.specs.Run.{IsRun, orders_of}
use Rattle.lgp_debugger.specs.declared.fault.Ran.{Ran}
use Rattle.lgp_debugger.specs.declared.fault.RunFault.{RunFault}
use Rattle.lgp_debugger.proofs.PerformedLemmas.{performed_state}
use Rattle.lgp_trace.specs.Phases.{all_phases}
use Rattle.lgp_trace.specs.Profile.{Profiled, profile_of}
use Rattle.lgp_trace.proofs.Sums.{profile_clock}

pub run_clock : (rules : List Rule) (limit : ℕ) (first new : Debugging) (answer : Result Ran RunFault) (profile : Profiled)
    → IsRun rules limit first new answer → profile ≡ profile_of first.state (orders_of answer)
    → new.state.clock ≡ first.state.clock + all_phases profile.phases
run_clock rules limit first new answer profile run noted =
    let state : new.state ≡ after first.state (orders_of answer) = ap (λ (d : Debugging). d.state) run.performed ∙ performed_state _ _ in
    grind (arith, profile_clock)

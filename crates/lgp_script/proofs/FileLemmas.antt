-- A run of a program that is loaded.
use Rattle.std.proofs.Common.{◌≡◌, ◌∙◌, ℕ, [], Some, Ok, ap, option_map, refl}
use Rattle.std.specs.Result.{result_ok}
use Rattle.lgp_table.specs.After.{after}
use Rattle.lgp_debugger.specs.Debugging.{Debugging, performed}
use Rattle.lgp_debugger.specs.Run.{run_of}
use Rattle.lgp_debugger.specs.declared.fault.Ran.{Ran}
use Rattle.lgp_debugger.proofs.PerformedLemmas.{performed_state}
use Rattle.lgp_script.specs.Files.{answer_left}

-- it leaves the machine as many orders later
pub left_by_run : (limit : ℕ) (begun left : Debugging) (ran : Ran) → run_of [] limit begun.state ≡ Ok ran → left ≡ performed begun ran.orders
    → answer_left (Some left.state) ≡ answer_left (option_map (λ (r : Ran). after begun.state r.orders) (result_ok (run_of [] limit begun.state)))
left_by_run limit begun left ran run later =
    let state : left.state ≡ after begun.state ran.orders =
    ap (λ (d : Debugging). d.state) later ∙ performed_state _ _ in
    rw (run, state) refl

-- A session that is brought to an order has the machine as it was when the order began.
use Rattle.std.proofs.Common.{◌≡◌, ℕ, ◌-◌, ◌<◌, ◌==◌, Bool, true, false, Option, Some, None, List, [], ◌∷◌, nat_lt, refl, ap, arith, sym, ◌∙◌}
use Rattle.std.proofs.lemmas.Bool.Decides.{nat_tests}
use Rattle.std.specs.Str.Lines.{lines}
use Rattle.lgp_table.specs.State.{State}
use Rattle.lgp_table.specs.After.{after}
use Rattle.lgp_table.proofs.After.{after_none}
use Rattle.lgp_debugger.proofs.PerformedLemmas.{performed_state}
use Rattle.lgp_stream.specs.KeptLine.{Kept, kept_of}
use Rattle.lgp_stream.specs.Language.{state_after}
use Rattle.lgp_stream.specs.Transcript.{after_lines}
use Rattle.lgp_command.specs.Operands.{IsCount}
use Rattle.lgp_command.specs.declared.command.Command.{Command}
use Rattle.lgp_command.specs.declared.command.Command.TheVariants as commands
use Rattle.lgp_script.specs.LabState.{LabState, opening_state}
use Rattle.lgp_script.specs.RunPart.{orders_of_run}
use Rattle.lgp_script.specs.Script.{script_language}
use Rattle.lgp_moment.specs.Moment.{after_kept, command_in, first_orders, lines_to, moment_of, orders_by, orders_in, state_at}
use Rattle.lgp_moment.proofs.MomentLemmas.{asks, orders_line}
use Rattle.lgp_moment.specs.MomentInside.{run_command}

abbrev after_all : LabState → List (List ℕ) → State
after_all lab ls = (state_after script_language lab ls).debugger.state

module _ (lab : LabState) (kept : Kept) (order : ℕ) (count : IsCount order) where
  -- the first orders of a run
  of_run : (by_rules : Bool) (limit : ℕ) → command_in lab kept ≡ Some (run_command by_rules limit) → order < orders_of_run by_rules limit lab → after_all lab (first_orders order) ≡ after lab.debugger.state order
  of_run by_rules limit is below = by_zero (order == 0) refl where
    by_zero : (none : Bool) → (order == 0) ≡ none → after_all lab (first_orders order) ≡ after lab.debugger.state order
    by_zero true e =
        let zero : order ≡ 0 = grind (arith, nat_tests) in
        rw e (sym (ap (after lab.debugger.state) zero ∙ after_none lab.debugger.state))
    by_zero false e =
        rw e (ap (λ (s : LabState). s.debugger.state) (orders_line by_rules limit order lab (asks lab kept (run_command by_rules limit) is).outside count (omega (arith, below)))
        ∙ performed_state lab.debugger order)

  -- other commands perform none
  nothing : {T : Type 0} → order < 0 → T
  nothing below = absurd (omega (arith, below))

  within : (command : Option Command) → command_in lab kept ≡ command → order < orders_by lab command → after_all lab (first_orders order) ≡ after lab.debugger.state order
  within (Some (commands.Run limit)) is below = of_run true limit is below
  within (Some (commands.Orders limit)) is below = of_run false limit is below
  within None is below = nothing below
  within (Some (commands.Put address word)) is below = nothing below
  within (Some commands.Mount) is below = nothing below
  within (Some (commands.Press action)) is below = nothing below
  within (Some commands.Type) is below = nothing below
  within (Some (commands.Turn times)) is below = nothing below
  within (Some commands.Panel) is below = nothing below
  within (Some (commands.Words range)) is below = nothing below
  within (Some (commands.Show range)) is below = nothing below
  within (Some commands.Printed) is below = nothing below
  within (Some commands.Dump) is below = nothing below
  within (Some commands.Source) is below = nothing below
  within (Some commands.List) is below = nothing below
  within (Some commands.Load) is below = nothing below
  within (Some (commands.Break address)) is below = nothing below
  within (Some (commands.Watch address)) is below = nothing below
  within (Some (commands.Drop number)) is below = nothing below
  within (Some (commands.Back orders)) is below = nothing below
  within (Some commands.Last) is below = nothing below

reached : (lab : LabState) (ls : List (List ℕ)) (order : ℕ) → IsCount order → after_all lab (lines_to lab ls order) ≡ state_at lab ls order
unfolding lines_to state_at
reached lab [] order count = refl
reached lab (line ∷ later) order count =
    by_test (nat_lt order (orders_in lab (kept_of line))) refl (reached (after_kept lab (kept_of line)) later (order - orders_in lab (kept_of line)) (omega (arith, count))) where
      by_test : (test : Bool) → nat_lt order (orders_in lab (kept_of line)) ≡ test
          → after_all (after_kept lab (kept_of line)) (lines_to (after_kept lab (kept_of line)) later (order - orders_in lab (kept_of line)))
          ≡ state_at (after_kept lab (kept_of line)) later (order - orders_in lab (kept_of line))
          → after_all lab (lines_to lab (line ∷ later) order) ≡ state_at lab (line ∷ later) order
      by_test true e rest =
          let below : order < orders_in lab (kept_of line) = grind (arith, nat_tests) in
          rw e (within lab (kept_of line) order count (command_in lab (kept_of line)) refl below)
      by_test false e rest = rw e rest

pub moments : (transcript : List ℕ) (order : ℕ) → IsCount order → (moment_of transcript order).state.debugger.state ≡ state_at opening_state (lines transcript) order
unfolding after_lines
moments transcript order count = reached opening_state (lines transcript) order count

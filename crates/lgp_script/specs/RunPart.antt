-- Part of the public promise: the first orders of a run, at most a given number of them, and runs
-- whose orders are watched.
use Rattle.std.specs.Prelude.{◌≡◌, ℕ, Bool, if◌then◌else◌, List, [], min, nat_lt}
use Rattle.lgp_history.specs.declared.rule.Rule.{Rule}
use Rattle.lgp_debugger.specs.Debugging.{performed}
use Rattle.lgp_debugger.specs.Run.{orders_of, run_of}
use Rattle.lgp_script.specs.LabState.{LabState}
use Rattle.lgp_script.specs.declared.run_part.RunPart.{RunPart}

-- the rules of a run, or none
abbrev pub rules_if : Bool → LabState → List Rule
rules_if by_rules lab = if by_rules then lab.debugger.rules else []

-- how many orders a run performs, broken off or not
unfoldable pub orders_of_run : Bool → ℕ → LabState → ℕ
orders_of_run by_rules limit lab =
    orders_of (run_of (rules_if by_rules lab) limit lab.debugger.state)

-- they are performed, and there are more of them or none
pub record IsRunPart (by_rules : Bool) (limit most : ℕ) (old new : LabState) (part : RunPart)
    : Type 0 where
  pub orders : part.orders ≡ min most (orders_of_run by_rules limit old)
  pub goes_on : part.goes_on ≡ nat_lt most (orders_of_run by_rules limit old)
  pub after : new ≡ record old { debugger = performed old.debugger part.orders }

-- all orders of a run by some rules were performed, and seen
pub record IsWatched (rules : List Rule) (limit : ℕ) (old new : LabState) (orders : ℕ)
    (Seen : Type 0) : Type 0 where
  pub performs : orders ≡ orders_of (run_of rules limit old.debugger.state)
  pub after : new ≡ record old { debugger = performed old.debugger orders }
  pub seen : Seen

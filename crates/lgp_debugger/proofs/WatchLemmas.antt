-- The first watch that stops a run is that of the first rule that does.
use Rattle.std.proofs.Common.{◌≡◌, ℕ, List, [], ◌∷◌, ap₂, map, refl, cond}
use Rattle.std.specs.Prelude.{not, position, nat_lt, Some, None}
use Rattle.std.specs.List.{prefix_len}
use Rattle.std.proofs.lemmas.List.{length-map}
use Rattle.lgp_table.specs.State.{State}
use Rattle.lgp_table.specs.Activity.{next}
use Rattle.lgp_history.specs.declared.rule.Rule.{Rule}
use Rattle.lgp_history.specs.declared.rule.Rule.TheVariants.{At, Changed}
use Rattle.lgp_debugger.specs.Run.{first_stop, stops_run}
use Rattle.lgp_debugger.specs.WatchInside.{stops_now, watch_of}

stops-watched : (before : State) (rule : Rule) → stops_now (next before) (watch_of before rule) ≡ stops_run before rule
stops-watched before (At address) = refl
stops-watched before (Changed address) = refl

prefix-watched : (before : State) (rules : List Rule)
    → prefix_len (λ watch. not (stops_now (next before) watch)) (map (watch_of before) rules) ≡ prefix_len (λ rule. not (stops_run before rule)) rules
prefix-watched before [] = refl
prefix-watched before (rule ∷ rules) =
    search (rules, stops-watched, prefix-watched before rules)

pub watched_stop : (before : State) (rules : List Rule)
    → position (stops_now (next before)) (map (watch_of before) rules) ≡ first_stop rules before
watched_stop before rules =
    ap₂ (λ (at all : ℕ). cond (nat_lt at all) (Some at) None) (prefix-watched before _) (length-map rules (watch_of before))

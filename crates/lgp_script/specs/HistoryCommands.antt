-- Part of the public promise: the script language, what is answered to the commands of rules and of
-- the way back.
use Rattle.std.specs.Prelude.{ℕ, ◌==◌, ◌++◌, if◌then◌else◌, nat_lt, is_some, List, [], ◌∷◌}
use Rattle.std.specs.Prelude.{length, remove, slice_get, codes, decimal}
use Rattle.std.specs.Option.{option_map_or}
use Rattle.lgp_history.specs.Hits.{last_hit}
use Rattle.lgp_history.specs.Steps.{orders_in}
use Rattle.lgp_history.specs.declared.rule.Rule.{Rule}
use Rattle.lgp_debugger.specs.Debugging.{Debugging, after_back, performed, rule_limit}
use Rattle.lgp_debugger.specs.Run.{orders_of, run_of}
use Rattle.lgp_debugger.specs.declared.fault.Ran.{Ran}
use Rattle.lgp_debugger.specs.declared.fault.Reason.{Reason}
use Rattle.lgp_debugger.specs.declared.fault.Reason.TheVariants.{Rest, Limit, Rule as ByRule}
use Rattle.lgp_script.specs.Refusal.{counted_text}
use Rattle.lgp_script.specs.LabState.{LabState}
use Rattle.lgp_script.specs.Reply.{Replied, leaving, outcome_reply, refusing}
use Rattle.lgp_script.specs.declared.refusal.Refusal.TheVariants as refusals
use Rattle.lgp_script.specs.declared.reply.Reply.TheVariants as replies

abbrev pub hit_text : ℕ → ℕ → List ℕ
hit_text orders rule = codes "back " ++ (decimal orders ++ counted_text (codes " rule ") rule)

-- how many orders a run performed, and why it ended
abbrev pub reason_text : Reason → List ℕ
reason_text Rest = codes " rest\n"
reason_text Limit = codes " limit\n"
reason_text (ByRule number) = counted_text (codes " rule ") number

abbrev pub ran_text : Ran → List ℕ
ran_text ran = codes "ran " ++ (decimal ran.orders ++ reason_text ran.reason)

-- ---- break, watch: one rule more, which has the next number

unfoldable pub replied_to_rule : LabState → Rule → Replied
replied_to_rule lab rule =
    let rules = lab.debugger.rules in
    if length rules == rule_limit then refusing refusals.Full lab
    else leaving (replies.Rule (length rules)) lab
    (record lab.debugger { rules = rules ++ rule ∷ [] })

-- ---- drop: the rule of a number goes, and later ones move down

unfoldable pub replied_to_drop : LabState → ℕ → Replied
replied_to_drop lab number =
    let rules = lab.debugger.rules in
    if nat_lt number rule_limit
    then leaving
    (if is_some (slice_get rules number) then replies.Done else replies.Refused refusals.NoRule)
    lab (record lab.debugger { rules = remove rules number })
    else refusing refusals.NoRule lab

-- ---- run: a run of the debugger; where its next order would pass the clock's end it is broken
-- off, and the orders before it remain

unfoldable pub replied_to_run : LabState → ℕ → Replied
replied_to_run lab limit =
    let d = lab.debugger in
    let outcome = run_of d.rules limit d.state in
    leaving (outcome_reply replies.Ran outcome) lab (performed d (orders_of outcome))

-- how many orders it performs, broken off or not
unfoldable pub orders_run : ℕ → Debugging → ℕ
orders_run limit d = orders_of (run_of d.rules limit d.state)

-- ---- back: a given number of orders

unfoldable pub replied_to_back : LabState → ℕ → Replied
replied_to_back lab orders =
    let d = lab.debugger in
    let after = if orders == 0 then d else after_back d orders in
    if nat_lt (orders_in d.steps) orders then refusing (refusals.TooFar (orders_in d.steps)) lab
    else leaving (replies.Clock after.state.clock) lab after

-- ---- last: back to the latest kept order that a rule hits

unfoldable pub replied_to_last : LabState → Replied
replied_to_last lab =
    let d = lab.debugger in
    option_map_or (λ hit. leaving (replies.Hit hit.0 hit.1) lab (after_back d hit.0))
    (last_hit d.rules d.steps) (refusing (refusals.NoHit (orders_in d.steps)) lab)

-- Part of the public promise: what is said after a run that is reported: for people the machine's state
-- and what lets it go on, where the run found the machine at rest or a rule stopped it; for programs
-- a record, which says also what the run came to.
use Rattle.std.specs.Prelude.{ℕ, ◌==◌, Bool, true, false, if◌then◌else◌, List, [], ◌∷◌, ◌++◌, codes}
use Rattle.std.specs.Prelude.{decimal}
use Rattle.lgp_data.specs.Ways.{state_sentence, way_sentence}
use Rattle.lgp_debugger.specs.declared.fault.Ran.{Ran}
use Rattle.lgp_debugger.specs.declared.fault.Reason.{Reason}
use Rattle.lgp_debugger.specs.declared.fault.Reason.TheVariants.{Rest, Limit, Rule as ByRule}
use Rattle.lgp_fields.specs.Plain.{PlainField, field, Nothing, Text}
use Rattle.lgp_table.specs.declared.panel.Mode.{Mode}
use Rattle.lgp_table.specs.declared.panel.Status.{Status}

-- whether a run found the machine at rest, or was stopped by a rule, so that its reply leaves open in
-- which state the machine is
abbrev pub ends_open : ℕ → Reason → Bool
ends_open orders Rest = orders == 0
ends_open orders (ByRule number) = true
ends_open orders reason = false

-- the machine's state, and what lets it go on
abbrev pub stand_words : Status → Mode → List ℕ
stand_words status mode = state_sentence status ++ (codes ": " ++ way_sentence status mode)

unfoldable pub stand_text : Status → Mode → List ℕ
stand_text status mode = codes "        " ++ (stand_words status mode ++ codes "\n")

-- how many orders a run performed, and what ended it
abbrev pub reason_words : Reason → List ℕ
reason_words Rest = codes " rest"
reason_words Limit = codes " limit"
reason_words (ByRule number) = codes " rule "

abbrev pub rule_words : Reason → List ℕ
rule_words (ByRule number) = decimal number
rule_words reason = []

abbrev pub ran_words : Ran → List ℕ
ran_words ran = decimal ran.orders ++ (reason_words ran.reason ++ rule_words ran.reason)

unfoldable pub ran_record : Ran → Status → Mode → List PlainField
ran_record ran status mode =
    field (codes "ran") (Text (ran_words ran))
    ∷ field (codes "state") (if ends_open ran.orders ran.reason then Text (stand_words status mode)
    else Nothing)
    ∷ []

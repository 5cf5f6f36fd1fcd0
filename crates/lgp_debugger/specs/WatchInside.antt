-- Serves proofs only: a rule with the word that was at its address before an order.
use Rattle.std.specs.Prelude.{ℕ, ◌==◌, Bool, not}
use Rattle.lgp_table.specs.State.{State, word_at}
use Rattle.lgp_history.specs.Hits.{goes_at}
use Rattle.lgp_history.specs.declared.rule.Rule.{Rule}
use Rattle.lgp_history.specs.declared.rule.Rule.TheVariants.{At, Changed}
use Rattle.lgp_debugger.specs.declared.watch.Watch.{Watch}

abbrev pub address_of : Rule → ℕ
address_of (At address) = address
address_of (Changed address) = address

abbrev pub watch_of : State → Rule → Watch
watch_of before rule = record { rule = rule; word = word_at before.core (address_of rule) }

-- whether the rule stops a run where the machine now is
abbrev pub stops_by : State → Rule → ℕ → Bool
stops_by now (At address) word = goes_at now address
stops_by now (Changed address) word = not (word == word_at now.core address)

abbrev pub stops_now : State → Watch → Bool
stops_now now watch = stops_by now watch.rule watch.word

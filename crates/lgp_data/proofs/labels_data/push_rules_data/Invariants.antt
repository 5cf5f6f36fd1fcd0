use Rattle.std.proofs.Common.{◌≡◌, ◌++◌, drop}
use Rattle.lgp_data.specs.ShowData.{rules_in}
use Rattle.lgp_data.proofs.labels_data.push_rules_data.Given as goal

abbrev pub invariant-loop-number : goal.invariant-loop-number
invariant-loop-number g l = l.text.items ++ rules_in l.form l.names l.number (drop l.number l.rules) ≡ l.fn.text.items ++ rules_in l.form l.names 0 l.rules

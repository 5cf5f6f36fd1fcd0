use Rattle.std.proofs.Common.{◌≡◌, ◌++◌, drop}
use Rattle.lgp_monitor.specs.Telling.{label_of}
use Rattle.lgp_monitor.proofs.labels.push_name.Given as goal

abbrev pub invariant-loop-name : goal.invariant-loop-name
invariant-loop-name g l = l.text.items ++ label_of (drop l.name-index l.names) l.value ≡ l.fn.text.items ++ label_of l.names l.value

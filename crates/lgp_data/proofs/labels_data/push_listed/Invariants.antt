use Rattle.std.proofs.Common.{◌≡◌, ◌++◌, drop, true}
use Rattle.lgp_data.specs.ShowData.{labels_listed}
use Rattle.lgp_data.proofs.labels_data.push_listed.Given as goal

abbrev pub invariant-loop-symbol : goal.invariant-loop-symbol
invariant-loop-symbol g l = l.text.items ++ labels_listed l.form l.declared (drop l.symbol-index l.symbols) ≡ l.fn.text.items ++ labels_listed l.form l.declared l.symbols

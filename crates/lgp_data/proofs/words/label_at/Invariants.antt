use Rattle.std.proofs.Common.{◌≡◌, drop}
use Rattle.lgp_data.specs.Words.{label_at}
use Rattle.lgp_data.proofs.words.label_at.Given as goal

abbrev pub invariant-loop-name : goal.invariant-loop-name
invariant-loop-name l = label_at (drop l.name-index l.names) l.value ≡ label_at l.names l.value

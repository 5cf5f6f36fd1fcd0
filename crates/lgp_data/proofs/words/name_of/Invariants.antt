use Rattle.std.proofs.Common.{◌≡◌, drop}
use Rattle.lgp_data.specs.Words.{name_of}
use Rattle.lgp_data.proofs.words.name_of.Given as goal

abbrev pub invariant-loop-name : goal.invariant-loop-name
invariant-loop-name l = name_of (drop l.name-index l.names) l.value ≡ name_of l.names l.value

use Rattle.std.proofs.Common.{◌≡◌, drop}
use Rattle.std.specs.Str.{bytes_eq}
use Rattle.std.specs.Map.{lookup}
use Rattle.lgp_assembler.proofs.patch.value_in.Given as goal

abbrev pub invariant-loop-symbol : goal.invariant-loop-symbol
invariant-loop-symbol l = lookup (bytes_eq l.name) (drop l.symbol-index l.names) ≡ lookup (bytes_eq l.name) l.names

use Rattle.std.proofs.Common.{◌≡◌, drop}
use Rattle.lgp_text.specs.NamedValues.{named, pairs_of}
use Rattle.lgp_text.proofs.names.value_named.Given as goal

abbrev pub invariant-loop-known : goal.invariant-loop-known
invariant-loop-known g l =
    named (pairs_of (drop l.known-index l.names)) l.name ≡ named (pairs_of l.names) l.name

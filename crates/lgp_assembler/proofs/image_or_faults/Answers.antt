-- Without faults the draft's words are a program's, each at a place of its own.
use Rattle.std.proofs.Common.{rules}
use Rattle.std.proofs.lemmas.List.{nil_from_length}
use Rattle.lgp_assembler.proofs.image_or_faults.Goals as goal

pub new-requires-2 : goal.new-requires-2
new-requires-2 g c =
    search (rules, nil_from_length)

pub returns : goal.returns
returns g c =
    search (rules, nil_from_length)

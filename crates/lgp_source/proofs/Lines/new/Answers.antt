use Rattle.lgp_source.specs.Source.{lines_of}
use Rattle.std.proofs.Common.{arith}
use Rattle.lgp_source.proofs.Steps.{length-numbered_lines}
use Rattle.lgp_source.proofs.Pieces.{pieces_are}
use Rattle.lgp_source.proofs.Lines.new.Goals as goal

pub returns-clause-lines : goal.returns-clause-lines
unfolding lines_of
returns-clause-lines c =
    grind (arith, pieces_are)

pub returns-clause-len : goal.returns-clause-len
returns-clause-len c =
    grind (arith, length-numbered_lines)

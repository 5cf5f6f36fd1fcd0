use Rattle.std.proofs.Common.{rules}
use Rattle.lgp_flexo.proofs.Reading.{rest_from-none, rest_from-some}
use Rattle.lgp_flexo.proofs.pieces.piece_from.Goals as goal

pub returns-in_err-piece-clause-none : goal.returns-in_err-piece-clause-none
returns-in_err-piece-clause-none c =
    search (rules, rest_from-none)

pub returns-clause-some : goal.returns-clause-some
returns-clause-some c =
    search (rules, rest_from-some)

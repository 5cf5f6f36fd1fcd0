use Rattle.std.proofs.Common.{◌≡◌, ◌++◌, drop}
use Rattle.lgp_text.specs.Pieces.{pieces_text}
use Rattle.lgp_text.proofs.pieces.push_pieces.Given as goal

abbrev pub invariant-loop-piece : goal.invariant-loop-piece
invariant-loop-piece g l = l.text.items ++ pieces_text (drop l.piece-index l.pieces) ≡ l.fn.text.items ++ pieces_text l.pieces

use Rattle.std.proofs.Common.{◌≡◌, ◌++◌, drop}
use Rattle.lgp_text.specs.Pieces.{pieces_text}
use Rattle.lgp_fields.specs.Escaped.{escaped}
use Rattle.lgp_fields.proofs.texts.push_escaped_pieces.Given as goal

abbrev pub invariant-loop-piece : goal.invariant-loop-piece
invariant-loop-piece g l = l.text.items ++ escaped (pieces_text (drop l.piece-index l.pieces)) ≡ l.fn.text.items ++ escaped (pieces_text l.pieces)

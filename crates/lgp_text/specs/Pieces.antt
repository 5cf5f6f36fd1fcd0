-- Part of the public promise: the pieces of which a line of text is put together.
use Rattle.std.specs.Prelude.{ℕ, List, map, decimal}
use Rattle.std.specs.List.{concat}
use Rattle.lgp_word.specs.Digits.{address_digits, digits_of}
use Rattle.lgp_text.specs.declared.pieces.Piece.{Piece}
use Rattle.lgp_text.specs.declared.pieces.Piece.TheVariants.{Text, Number, Place, Digits}

-- a text as it is, a number in decimal, an address as ttss, a word as eight digits
abbrev pub piece_text : Piece → List ℕ
piece_text (Text text) = text.now
piece_text (Number number) = decimal number
piece_text (Place address) = address_digits address
piece_text (Digits bits) = digits_of bits

-- pieces one after another
abbrev pub pieces_text : List Piece → List ℕ
pieces_text pieces = concat (map piece_text pieces)

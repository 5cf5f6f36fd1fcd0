-- Part of the public promise: the text of a word, by the order that it is, or else by its digits.
-- This project's own choice.
use Rattle.std.specs.Prelude.{ℕ, ◌++◌, List, [], ◌∷◌, codes, if◌then◌else◌}
use Rattle.std.specs.Option.{option_map_or}
use Rattle.lgp_word.specs.Digits.{digits_of, address_digits}
use Rattle.lgp_word.specs.Order.{OrderParts, decoded, op_letter}

-- an order: its letter, after a minus where it has one, a space and its address
abbrev pub order_text : OrderParts → List ℕ
order_text order =
    (if order.minus then codes "-" else [])
    ++ op_letter order.op ∷ codes " " ++ address_digits order.address

-- the text of a word: the order that it is, or else its digits
unfoldable pub disassembly : ℕ → List ℕ
disassembly word = option_map_or order_text (decoded word) (codes "word " ++ digits_of word)

-- Part of the public promise: the operations of the source language, and how many operands each
-- takes. This project's own choice; the order letters are those of the Programming Manual.
use Rattle.std.specs.Prelude.{ℕ, ◌==◌, Bool, true, false, if◌then◌else◌, List, length, codes}
use Rattle.std.specs.Prelude.{[], ◌∷◌, slice_index, Option, None, option_map}
use Rattle.std.specs.Map.{lookup}
use Rattle.std.specs.Option.{option_or}
use Rattle.std.specs.Str.{bytes_eq}
use Rattle.lgp_word.specs.declared.order.Op.TheVariants.{Z, I, P}
use Rattle.lgp_word.specs.Order.{op_of_letter}
use Rattle.lgp_assembler.specs.declared.operations.Operation.{Operation}
use Rattle.lgp_assembler.specs.declared.operations.Operation.TheVariants.{Order, MinusT, Org, Word}
use Rattle.lgp_assembler.specs.declared.operations.Operation.TheVariants.{Frac, Int, End}

-- an order, named by its letter
abbrev pub letter_operation : List ℕ → Option Operation
letter_operation text =
    if length text == 1 then option_map Order (op_of_letter (slice_index text 0)) else None

-- the operation that a token names
unfoldable pub operation_of : List ℕ → Option Operation
operation_of text =
    option_or
    (lookup (bytes_eq text) ((codes "org", Org) ∷ (codes "word", Word) ∷ (codes "frac", Frac)
    ∷ (codes "int", Int) ∷ (codes "end", End) ∷ (codes "-t", MinusT) ∷ []))
    (letter_operation text)

-- how many operands an operation needs: the orders z, i and p do without an address
abbrev pub least_operands : Operation → ℕ
least_operands (Order Z) = 0
least_operands (Order I) = 0
least_operands (Order P) = 0
least_operands Int = 2
least_operands End = 0
least_operands _ = 1

-- and how many it takes
abbrev pub most_operands : Operation → ℕ
most_operands Int = 2
most_operands _ = 1

-- whether it makes one word
abbrev pub makes_word : Operation → Bool
makes_word Org = false
makes_word End = false
makes_word _ = true

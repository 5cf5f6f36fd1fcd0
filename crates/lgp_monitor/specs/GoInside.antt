-- Serves proofs only: the lines that start the machine at an address, in two parts.
use Rattle.std.specs.Prelude.{ℕ, List, [], ◌∷◌, ◌++◌, codes}
use Rattle.lgp_word.specs.Digits.{digits_of}
use Rattle.lgp_word.specs.Order.{plain_order}
use Rattle.lgp_word.specs.declared.order.Op.TheVariants.{U}

abbrev pub jump_lines : ℕ → List (List ℕ)
jump_lines address =
    codes "press manual" ∷ (codes "type " ++ digits_of (plain_order U address))
    ∷ codes "press fill" ∷ []

abbrev pub executing_lines : List (List ℕ)
executing_lines =
    codes "press oneop" ∷ codes "press execute" ∷ codes "orders 1" ∷ codes "press normal"
    ∷ codes "press start" ∷ []

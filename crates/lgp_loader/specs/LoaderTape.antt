-- Part of the public promise. The words of a loader's tape. A control word is the order that stores
-- a word, and so is positive; the end word is negative.
use Rattle.std.specs.Prelude.{ℕ, ◌+◌, ◌^◌, List, [], ◌∷◌, ◌++◌, Option, None, Some}
use Rattle.lgp_word.specs.declared.order.Op.TheVariants.{U, C}
use Rattle.lgp_flexo.specs.Code.{stop_code}
use Rattle.lgp_flexo.specs.WordCodes.{word_codes}
use Rattle.lgp_word.specs.Order.{plain_order}

-- the code of a carriage return, which an input skips
abbrev pub carriage_return : ℕ
carriage_return = 16

-- the order that stores a word
abbrev pub control_word : ℕ → ℕ
control_word place = plain_order C place

-- the word that ends a tape: a jump to the start, or a stop, with the sign bit set
abbrev pub end_word : Option ℕ → ℕ
end_word None = 2 ^ 31
end_word (Some start) = 2 ^ 31 + plain_order U start

-- a word and the conditional stop after it
abbrev pub stopped_word : ℕ → List ℕ
stopped_word word = word_codes word ++ stop_code ∷ []

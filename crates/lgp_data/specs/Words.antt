-- Part of the public promise: words and names as the values of fields.
use Rattle.std.specs.Prelude.{ℕ, ◌+◌, ◌-◌, ◌/◌, ◌%◌, ◌^◌, ◌==◌, ◌&&◌, true, false}
use Rattle.std.specs.Prelude.{Bool, if◌then◌else◌, List, [], ◌++◌, find, is_some, Option}
use Rattle.std.specs.Option.{option_map_or}
use Rattle.lgp_word.specs.Digits.{address_digits}
use Rattle.lgp_word.specs.Order.{address_at, decoded, op_at, op_letter, sign_of, takes_minus}
use Rattle.lgp_fields.specs.Plain.{Plain, Nothing, Signed, Text}
use Rattle.lgp_fields.specs.Seen.{label_text, order_text}
use Rattle.lgp_word.specs.declared.order.Op.{Op}
use Rattle.lgp_word.specs.declared.order.Op.TheVariants.{Z, I, P}

-- 32 bits as a whole number with its sign, one half of them rounded down: the binary point comes
-- after bit 30. The accumulator has one bit more than a word, and its number is that of the word
-- which h stores from it.
abbrev pub number_size : ℕ → ℕ
number_size bits = if sign_of bits then (2 ^ 32 + 1 - bits) / 2 else bits / 2

unfoldable pub whole_number : ℕ → Plain
whole_number bits = Signed (sign_of bits) (number_size bits)

-- a word as the order that is performed
unfoldable pub performed_order : ℕ → Plain
performed_order word =
    Text (order_text (takes_minus (op_at word) && sign_of word) (op_letter (op_at word))
    (address_at word))

-- a word as the order that it is, where it is one
unfoldable pub word_order : ℕ → Plain
word_order word = if is_some (decoded word) then performed_order word else Nothing

-- the same of 32 bits, which are a word where the last of them is 0
unfoldable pub bits_order : ℕ → Plain
bits_order bits = if bits % 2 == 0 then word_order bits else Nothing

-- the first of the names that have a value
unfoldable pub name_of : List (List ℕ × ℕ) → ℕ → Plain
name_of names value =
    option_map_or (λ name. Text name.0) (find (λ name. name.1 == value) names) Nothing

-- the same as a label, which is empty where no name has the value
unfoldable pub label_at : List (List ℕ × ℕ) → ℕ → List ℕ
label_at names value = option_map_or (λ name. name.0) (find (λ name. name.1 == value) names) []

-- an address with its label
abbrev pub labelled_place : List (List ℕ × ℕ) → ℕ → Plain
labelled_place names address = Text (address_digits address ++ label_text (label_at names address))

-- whether an order refers to the word at its address: all but z, i and p do
abbrev pub refers : Op → Bool
refers Z = false
refers I = false
refers P = false
refers op = true

-- a word as the order that is performed, with the label of the word that it refers to
abbrev pub reference_label : List (List ℕ × ℕ) → ℕ → List ℕ
reference_label names word =
    if refers (op_at word) then label_at names (address_at word) else []

unfoldable pub labelled_order : List (List ℕ × ℕ) → ℕ → Plain
labelled_order names word =
    Text (order_text (takes_minus (op_at word) && sign_of word) (op_letter (op_at word))
    (address_at word) ++ label_text (reference_label names word))

-- an address, where there is one
unfoldable pub place_value : Option ℕ → Plain
place_value place = option_map_or (λ address. Text (address_digits address)) place Nothing

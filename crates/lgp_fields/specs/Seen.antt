-- Part of the public promise: the plain fields that the program's values show, which borrow their
-- texts. Eight digits, an address and an order are texts; a label may come after an address.
use Rattle.std.specs.Prelude.{ℕ, ◌++◌, ◌==◌, Bool, if◌then◌else◌, List, [], ◌∷◌, codes, length, map}
use Rattle.std.specs.Borrow.{Bor}
use Rattle.lgp_word.specs.Digits.{address_digits, digits_of}
use Rattle.lgp_text.specs.Pieces.{pieces_text}
use Rattle.lgp_fields.specs.Plain.{Plain, PlainField, Nothing, Number, Signed, YesNo, Numbers, Text}
use Rattle.lgp_fields.specs.declared.field.Value.{Value}
use Rattle.lgp_fields.specs.declared.field.Value.TheVariants as values

-- a minus or none, a letter, a blank and an address
unfoldable pub order_text : Bool → ℕ → ℕ → List ℕ
order_text minus letter address =
    (if minus then codes "-" else []) ++ ((letter ∷ codes " ") ++ address_digits address)

-- a label after an address, if it is not empty
unfoldable pub label_text : List ℕ → List ℕ
label_text label = (if length label == 0 then [] else codes " ") ++ label

abbrev pub value_seen : Value → Plain
value_seen values.Nothing = Nothing
value_seen (values.Number number) = Number number
value_seen (values.Signed minus size) = Signed minus size
value_seen (values.YesNo holds) = YesNo holds
value_seen (values.Wide number) = Number number.now
value_seen (values.Numbers numbers) = Numbers numbers.now
value_seen (values.WideNumbers numbers) = Numbers numbers.now
value_seen (values.Span first past) = Numbers (first ∷ past ∷ [])
value_seen (values.Spans first past next end) = Numbers (first ∷ past ∷ next ∷ end ∷ [])
value_seen (values.Text text) = Text text.now
value_seen (values.Byte byte) = Text (byte ∷ [])
value_seen (values.Pieces pieces) = Text (pieces_text pieces.now)
value_seen (values.Digits bits) = Text (digits_of bits)
value_seen (values.Place address) = Text (address_digits address)
value_seen (values.Labelled address label) = Text (address_digits address ++ label_text label.now)
value_seen (values.Order minus letter address) = Text (order_text minus letter address)
value_seen (values.LabelledOrder minus letter address label) =
    Text (order_text minus letter address ++ label_text label.now)

abbrev pub field_seen : Bor (List ℕ) × Value → PlainField
field_seen field = record { key = field.0.now; value = value_seen field.1 }

abbrev pub fields_seen : List (Bor (List ℕ) × Value) → List PlainField
fields_seen fields = map field_seen fields

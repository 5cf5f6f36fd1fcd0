-- Part of the public promise: replies for programs read back. The key of a line is what comes before
-- the first blank, and its value what comes after it; an escaped text has its bytes again, in a line
-- and in a string of JSON.
use Rattle.std.specs.Prelude.{ℕ, ◌+◌, ◌-◌, ◌*◌, ◌==◌, not, Bool, true, false, if◌then◌else◌, nat_lt, List, [], ◌∷◌, drop}
use Rattle.std.specs.List.{list_all}
use Rattle.lgp_fields.specs.Plain.{Plain, Nothing}

unfoldable pub key_of : List ℕ → List ℕ
key_of [] = []
key_of (b ∷ more) = if b == 32 then [] else b ∷ key_of more

unfoldable pub value_of : List ℕ → List ℕ
value_of [] = []
value_of (b ∷ more) = if b == 32 then more else value_of more

abbrev pub has_no_blank : List ℕ → Bool
has_no_blank key = list_all (λ b. not (b == 32)) key

-- whether a value has a line
abbrev pub has_text : Plain → Bool
has_text Nothing = false
has_text value = true

abbrev pub are_bytes : List ℕ → Bool
are_bytes text = list_all (λ b. nat_lt b 256) text

-- the value of a digit of base 16
unfoldable pub hex_value : ℕ → ℕ
hex_value digit = if nat_lt digit 97 then digit - 48 else digit - 97 + 10

-- the bytes of an escaped text up to a quotation mark, from a place on, by what comes there: 0 a
-- byte, 1 what a backslash stands in front of, 5 to 2 the digits of a byte's number, of which the ones
-- before are this value
unfoldable pub unescaped_at : ℕ → ℕ → List ℕ → List ℕ
unescaped_at place value [] = []
unescaped_at place value (b ∷ more) =
    if place == 0 then (if b == 34 then [] else (if b == 92 then unescaped_at 1 0 more
    else b ∷ unescaped_at 0 0 more))
    else (if place == 1
    then (if b == 117 then unescaped_at 5 0 more else b ∷ unescaped_at 0 0 more)
    else (if place == 2 then (16 * value + hex_value b) ∷ unescaped_at 0 0 more
    else unescaped_at (place - 1) (16 * value + hex_value b) more))

abbrev pub unescaped : List ℕ → List ℕ
unescaped text = unescaped_at 0 0 text

-- the text of a string in front of a text of JSON
abbrev pub string_of : List ℕ → List ℕ
string_of json = unescaped (drop 1 json)

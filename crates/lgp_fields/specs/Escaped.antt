-- Part of the public promise: how the bytes of a text are written, in JSON between quotation marks
-- and in a line without them.
use Rattle.std.specs.Prelude.{ℕ, ◌+◌, ◌-◌, ◌/◌, ◌%◌, ◌==◌, Bool, not, ◌&&◌, ◌||◌, if◌then◌else◌}
use Rattle.std.specs.Prelude.{nat_le, nat_lt, List, [], ◌∷◌, ◌++◌, codes}
use Rattle.std.specs.Str.{byte}

abbrev pub hex_digit : ℕ → ℕ
hex_digit value = if nat_lt value 10 then byte "0" + value else byte "a" + (value - 10)

-- whether a byte is written as itself: a printed character of ASCII, but neither a quotation mark nor
-- a backslash
abbrev pub is_itself : ℕ → Bool
is_itself character =
    not (character == 34 || character == 92) && (nat_le 32 character && nat_le character 126)

-- a quotation mark or a backslash comes after a backslash; any other byte that is not written as
-- itself is written by its number
unfoldable pub escaped_byte : ℕ → List ℕ
escaped_byte character =
    if is_itself character then character ∷ []
    else (if character == 34 || character == 92 then byte "\\" ∷ character ∷ []
    else codes "\\u00" ++ (hex_digit (character / 16) ∷ hex_digit (character % 16) ∷ []))

unfoldable pub escaped : List ℕ → List ℕ
escaped [] = []
escaped (character ∷ more) = escaped_byte character ++ escaped more

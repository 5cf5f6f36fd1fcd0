-- Part of the public promise: tapes as bytes, one for each code, which is the code's number. So the
-- bytes are the codes, and a byte above 63 is none.
use Rattle.std.specs.Prelude.{ℕ, Bool, nat_lt, Option, List, position}
use Rattle.lgp_flexo.specs.Code.{greatest_code}

abbrev pub is_no_code : ℕ → Bool
is_no_code byte = nat_lt greatest_code byte

-- the place of the first byte that is no code
abbrev pub first_no_code : List ℕ → Option ℕ
first_no_code bytes = position is_no_code bytes

-- Part of the public promise. Accounts drawn along the drum: a sign for each word time, a row for
-- each turn with its clock in front. In the k-th column of a row the head reads the position k, and
-- in the last one 0.
use Rattle.std.specs.Prelude.{ℕ, zero, suc, ◌+◌, ◌-◌, ◌%◌, ◌++◌, ◌==◌, if◌then◌else◌, Option, Some}
use Rattle.std.specs.Prelude.{None, List, [], ◌∷◌, codes, replicate, is_some}
use Rattle.std.specs.Str.{byte}
use Rattle.lgp_trace.specs.Columns.{blanks, right_aligned}
use Rattle.lgp_trace.specs.Account.{stored_address}
use Rattle.lgp_trace.specs.declared.account.Account.{Account}
use Rattle.lgp_trace.specs.declared.account.Operand.{Operand}

-- a wait: dots, and in its last word time the sign of what is read or stored
abbrev pub waited : ℕ → ℕ → List ℕ
waited zero sign = []
waited (suc before) sign = replicate before (byte ".") ++ sign ∷ []

-- a word that is waited for is read, or stored by an order that stores
abbrev pub use_sign : Option ℕ → ℕ
use_sign stored = if is_some stored then byte "W" else byte "R"

-- the third phase: a wait for a word, or dashes where none is awaited
abbrev pub seek_signs : Option Operand → Option ℕ → ℕ → List ℕ
seek_signs None stored times = replicate times (byte "-")
seek_signs (Some operand) stored times = waited times (use_sign stored)

-- the signs of an account, one for each of its word times
unfoldable pub signs_of : Account → List ℕ
signs_of account =
    waited account.phases.find (byte "F") ++ (replicate account.phases.take (byte "i")
    ++ (seek_signs account.operand (stored_address account.order) account.phases.seek
    ++ replicate account.phases.act (byte "x")))

-- ---- rows

abbrev pub row_head : ℕ → List ℕ
row_head clock = right_aligned 7 clock ++ codes "  "

-- one sign at its clock: a row begins with each turn, and ends with it
abbrev pub sign_in_row : ℕ → ℕ → List ℕ
sign_in_row clock sign =
    (if clock % 64 == 0 then row_head clock else [])
    ++ (sign ∷ (if clock % 64 == 63 then codes "\n" else []))

-- signs from a clock on
abbrev pub signs_in_rows : ℕ → List ℕ → List ℕ
signs_in_rows clock [] = []
signs_in_rows clock (sign ∷ more) = sign_in_row clock sign ++ signs_in_rows (clock + 1) more

-- the head of the row in which a picture begins, and blanks up to its clock
unfoldable pub rows_begun : ℕ → List ℕ
rows_begun clock =
    if clock % 64 == 0 then [] else row_head (clock - clock % 64) ++ blanks (clock % 64)

-- the end of the row in which a picture ends
unfoldable pub rows_ended : ℕ → List ℕ
rows_ended clock = if clock % 64 == 0 then [] else codes "\n"

-- Part of the public promise: tapes written in the ASCII form of archives, so that what is written
-- reads back. It is what the simulator lgp of SIMH punches, but for five codes, written as groups:
-- SIMH punches them as bytes that its reader takes for something else.
use Rattle.std.specs.Prelude.{ℕ, ◌==◌, if◌then◌else◌, Option, Some, None, List, [], ◌∷◌, ◌++◌}
use Rattle.std.specs.Prelude.{codes, flat_map}
use Rattle.std.specs.Str.{byte}
use Rattle.lgp_word.specs.Digits.{two_digits}
use Rattle.lgp_flexo.specs.Code.{sign_at}

-- the byte that stands for a code, if there is one: its sign; and for color, carriage return and
-- tab a stroke and the carriage return and tab of ASCII
abbrev pub archive_byte : ℕ → Option ℕ
archive_byte code =
    if code == 12 then Some (byte "|")
    else (if code == 16 then Some 13
    else (if code == 24 then Some 9
    else sign_at code))

-- a code by its byte, or as a group of two decimal digits
abbrev pub byte_or_group : Option ℕ → ℕ → List ℕ
byte_or_group (Some sign) code = sign ∷ []
byte_or_group None code = codes "!" ++ two_digits code

abbrev pub archived_code : ℕ → List ℕ
archived_code code = byte_or_group (archive_byte code) code

abbrev pub archived_tape : List ℕ → List ℕ
archived_tape tape = flat_map archived_code tape

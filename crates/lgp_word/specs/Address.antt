-- Part of the public promise: the numbering of the drum (Programming Manual, "The drum"). An
-- address is written ttss, by its track and its sector, and has the number 64 * track + sector.
use Rattle.std.specs.Prelude.{ℕ, ◌+◌, ◌/◌, ◌%◌, ◌<◌}
use Rattle.lgp_word.specs.Drum.{drum_size, track_size}

abbrev pub IsAddress : ℕ → Type 0
IsAddress number = number < drum_size

abbrev pub track_of : ℕ → ℕ
track_of number = number / track_size

abbrev pub sector_of : ℕ → ℕ
sector_of number = number % track_size

-- the address after this one: 0000 comes after 6363
abbrev pub address_after : ℕ → ℕ
address_after number = (number + 1) % drum_size

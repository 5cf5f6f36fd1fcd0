-- Part of the public promise: a range of words on the drum.
use Rattle.std.specs.Prelude.{ℕ, ◌+◌, ◌&&◌, if◌then◌else◌, nat_le, nat_lt, Option, Some, None}
use Rattle.lgp_word.specs.Drum.{drum_size}
use Rattle.lgp_command.specs.Limits.{shown_limit}

-- the address of its first word, and how many words it has
pub record WordRange : Type 0 where
  pub first : ℕ
  pub count : ℕ

-- a given number of words from an address on: 1 to 64, none past 6363
unfoldable pub range_of : ℕ → ℕ → Option WordRange
range_of first count =
    if nat_lt 0 count && nat_le count shown_limit && nat_le (first + count) drum_size
    then Some (record { first = first; count = count }) else None

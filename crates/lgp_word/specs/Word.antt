-- Part of the public promise: a word of the LGP-30 (Programming Manual, "The word"). It has 32
-- bits, of which bit 0 is the sign and bit 31, the spacer, is always 0. So a word is an even number
-- below 2^32.
use Rattle.std.specs.Prelude.{◌≡◌, ℕ, ◌*◌, ◌/◌, ◌%◌, ◌^◌, ◌<◌, ℤ}
use Rattle.std.specs.Int.{cast_signed, w32}

-- what 32 bits a word may have
abbrev pub IsWord : ℕ → Type 0
IsWord bits = (bits < 2 ^ 32) × (bits % 2 ≡ 0)

-- 32 bits with the spacer cleared, as they are stored on the drum
abbrev pub stored : ℕ → ℕ
stored bits = 2 * (bits / 2)

-- the bits read as a number with a sign, in two's complement
abbrev pub signed : ℕ → ℤ
signed bits = cast_signed w32 bits

-- Part of the public promise: what a region's blocks own. Memory is counted in units of 16 bytes
-- that are aligned to 16; a block has one unit, or twice, four times, .. as many.
use Rattle.std.specs.Prelude.{ℕ, ◌-◌, ◌*◌, ◌/◌, ◌^◌, ◌<◌}
use Rattle.std.specs.Int.{w64, leading_zeros}
use mir.Syntax.{Ty, w128, ty_int, ty_array}
use prog.Memory.{size}
use base.Fml.{Fml, fex, fwand}
use denote.RawPtr.{Ptr, room_for}

-- a given number of bytes, as units
abbrev pub units_of : ℕ → Ty
units_of bytes = ty_array (ty_int w128) (bytes / 16)

-- a number of bytes without the last ones that are no whole unit
abbrev pub whole_units : ℕ → ℕ
whole_units bytes = bytes / 16 * 16

-- room for them at a place
abbrev pub bytes_at : Ptr → ℕ → Fml
bytes_at place bytes = room_for (units_of bytes) place

-- the number of the smallest size that a request of a given number of bytes fits: 0 for one unit, 1
-- for two units, 2 for four
unfoldable pub shelf_of : ℕ → ℕ
shelf_of bytes = 64 - leading_zeros w64 ((bytes - 1) / 16)

-- the bytes of the block for a request
abbrev pub block_size : ℕ → ℕ
block_size bytes = 16 * 2 ^ shelf_of bytes

-- the right to give back the block for a value at a place: with the room of the value it is the
-- block's bytes again. It says nothing of the region, which may keep the block or lose it.
abbrev pub block_token : Ty → Ptr → Fml
block_token type place =
    fex (size type < 2 ^ 63)
    (λ _. fwand (room_for type place) (bytes_at place (block_size (size type))))

-- Serves proofs only. How the drum's cells lie in memory: track after track, on each track in the
-- order in which the sectors pass the head.
use Rattle.std.specs.Prelude.{ℕ, ◌+◌, ◌*◌, List, map, slice_index}
use Rattle.std.specs.List.{range_with_len}
use Rattle.lgp_word.specs.Address.{sector_of, track_of}
use Rattle.lgp_word.specs.Drum.{drum_size, position_of, track_size}

-- where the cell of an address is
abbrev pub place_of : ℕ → ℕ
place_of address = track_size * track_of address + position_of (sector_of address)

-- the words of the cells, by address
unfoldable pub by_address : List ℕ → List ℕ
by_address cells =
    map (λ address. slice_index cells (place_of address)) (range_with_len 0 drum_size)

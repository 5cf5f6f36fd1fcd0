use Rattle.std.proofs.Common.{◌≡◌, ◌++◌, map, slice_index}
use Rattle.std.specs.List.{concat, range_with_len}
use Rattle.lgp_optimum.specs.OptimumLines.{sector_at, sector_line}
use Rattle.lgp_optimum.proofs.lines.push_track.Given as goal

abbrev pub invariant-loop-position : goal.invariant-loop-position
invariant-loop-position g l = l.text.items ≡ l.fn.text.items
    ++ concat (map (λ position. sector_line l.track (sector_at position) (slice_index l.times (sector_at position))) (range_with_len 0 l.position))

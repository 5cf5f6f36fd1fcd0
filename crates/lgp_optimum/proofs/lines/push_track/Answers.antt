use Rattle.std.proofs.Common.{◌∙◌, ◌++◌, ℕ, ap, slice_index}
use Rattle.lgp_optimum.specs.OptimumLines.{sector_at, sector_line}
use Rattle.lgp_optimum.proofs.GainLemmas.{line_more}
use Rattle.lgp_optimum.proofs.lines.push_track.Goals as goal

pub loop-position-preserved : goal.loop-position-preserved
loop-position-preserved g c =
    line_more (λ (position : ℕ). sector_line c.args.track.now (sector_at position) (slice_index c.args.times.now (sector_at position))) c.loop-position.position c.args.text.now.items c.loop-position.text.items c.push_sector.new.text.items
    c.loop-position.invariant
    (c.in_ok-push_sector.ensures ∙ ap (λ (k : ℕ). c.loop-position.text.items ++ sector_line c.args.track.now (sector_at c.loop-position.position) (slice_index c.args.times.now k)) c.from.ensures)

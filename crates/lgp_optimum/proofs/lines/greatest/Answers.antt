use Rattle.std.proofs.Common.{◌≡◌, max, rules, slice_index}
use Rattle.lgp_optimum.proofs.GainLemmas.{greatest_more, greatest_none}
use Rattle.lgp_optimum.proofs.lines.greatest.Goals as goal

pub loop-sector-init : goal.loop-sector-init
loop-sector-init c = greatest_none c.args.times.now

pub loop-sector-preserved : goal.loop-sector-preserved
loop-sector-preserved c =
    let more : c.max-most.result ≡ max c.loop-sector.most (slice_index c.args.times.now c.loop-sector.sector) = search rules in
    greatest_more c.args.times.now c.loop-sector.sector c.loop-sector.most c.max-most.result c.loop-sector.invariant more

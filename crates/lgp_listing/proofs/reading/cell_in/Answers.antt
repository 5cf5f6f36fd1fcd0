use Rattle.std.proofs.Common.{rules}
use Rattle.lgp_listing.specs.Dump.{cell_in}
use Rattle.lgp_listing.proofs.reading.cell_in.Goals as goal

pub returns-in-Some-Some : goal.returns-in-Some-Some
unfolding cell_in
returns-in-Some-Some c = search rules

use Rattle.std.proofs.Common.{rules}
use Rattle.lgp_region.proofs.region.Region.kept_block.Goals as goal

pub returns-then-held-wanted : goal.returns-then-held-wanted
returns-then-held-wanted c = search rules

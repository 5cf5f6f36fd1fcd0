use Rattle.lgp_fraction.proofs.RoundingLemmas.{nearest-is_nearest}
use Rattle.lgp_fraction.proofs.rounding.nearest_is_nearest.Goals as goal

pub returns : goal.returns
returns c = nearest-is_nearest

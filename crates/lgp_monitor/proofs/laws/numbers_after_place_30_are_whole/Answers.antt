use Rattle.lgp_monitor.proofs.ScaleLaws.{text-after_place_30}
use Rattle.lgp_monitor.proofs.laws.numbers_after_place_30_are_whole.Goals as goal

pub returns : goal.returns
returns c = text-after_place_30

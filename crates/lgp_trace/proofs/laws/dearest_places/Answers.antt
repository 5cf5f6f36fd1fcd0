use Rattle.lgp_trace.proofs.DearestLaw.{are_dearest}
use Rattle.lgp_trace.proofs.laws.dearest_places.Goals as goal

pub returns : goal.returns
returns c = are_dearest

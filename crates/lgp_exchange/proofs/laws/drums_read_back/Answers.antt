use Rattle.lgp_exchange.proofs.Drums.{deposits_read_back, shown_read_back}
use Rattle.lgp_exchange.proofs.laws.drums_read_back.Goals as goal

pub returns-clause-deposits : goal.returns-clause-deposits
returns-clause-deposits c = deposits_read_back

pub returns-clause-shown : goal.returns-clause-shown
returns-clause-shown c = shown_read_back

use Rattle.lgp_monitor.proofs.LineLemmas.{reported_by_script}
use Rattle.lgp_monitor.proofs.laws.transcript_is_the_script.Goals as goal

pub returns : goal.returns
returns g c = λ typed. reported_by_script typed

use Rattle.lgp_debugger.proofs.WatchedLemmas.{seen_so}
use Rattle.lgp_trace.proofs.Telling.{seen_reported}
use Rattle.lgp_trace.proofs.trace.trace_run.Goals as goal

pub returns : goal.returns
returns g c = seen_so _ _ _ _ _ _ _ _ (λ seen. seen_reported _ _ (λ v. v.items) _ _ _ _ seen) c.run_watched.ensures

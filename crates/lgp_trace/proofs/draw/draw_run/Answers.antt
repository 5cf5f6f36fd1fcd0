use Rattle.lgp_debugger.proofs.WatchedLemmas.{seen_so}
use Rattle.lgp_trace.proofs.Telling.{seen_drawn}
use Rattle.lgp_trace.proofs.draw.draw_run.Goals as goal

pub returns : goal.returns
returns g c = seen_so _ _ _ _ _ _ _ _ (λ seen. seen_drawn _ (λ v. v.items) _ _ _ _ seen) c.run_watched.ensures

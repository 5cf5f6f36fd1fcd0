use Rattle.std.proofs.Common.{refl}
use Rattle.lgp_trace.proofs.Telling.{seen_profile}
use Rattle.lgp_trace.proofs.runs.note_orders_so.Goals as goal

pub returns-clause-noted : goal.returns-clause-noted
returns-clause-noted g c =
    seen_profile _ (λ p. p) _ _ _ _ c.clear.ensures (c.run_watched.ensures.all_seen refl)

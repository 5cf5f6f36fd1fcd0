use Rattle.std.proofs.Common.{rules}
use Rattle.lgp_stream.proofs.KnownLemmas.{Appends-trans, take-piece}
use Rattle.lgp_stream.proofs.stream.send.Goals as goal

pub loop-taken-preserved : goal.loop-taken-preserved
loop-taken-preserved g c = record {
  sent = rw (take-piece _ _ _) (Appends-trans _ _ _ _ _ c.loop-taken.invariant.sent c.in-Ok.ensures.bytes);
  within = search rules;
}

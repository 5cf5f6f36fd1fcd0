use Rattle.std.proofs.Common.{◌∙◌}
use Rattle.lgp_desk.proofs.ServedLemmas.{stands-of}
use Rattle.lgp_desk.proofs.answering.deliver.Goals as goal

pub returns-in-Ok-clause-stands : goal.returns-in-Ok-clause-stands
returns-in-Ok-clause-stands g c = λ text is. stands-of c.deref.result.now text _ _ _ (c.deref.ensures.value ∙ (rw c.in-Ok.is at is)) c.write_whole.ensures.stands

use Rattle.std.proofs.Common.{◌∙◌, ap, length, sym}
use Rattle.circular_buffer.specs.Buffer.{Buffer}
use Rattle.lgp_history.specs.RecordedInside.{Recorded}
use Rattle.lgp_history.proofs.RecordedSteps.{length-read}
use Rattle.lgp_history.proofs.records.RecordsHistory.kept.Goals as goal

pub returns-clause-count : goal.returns-clause-count
returns-clause-count g c = λ now. c.len.ensures.len ∙ ap (λ (b : Buffer Recorded). length b.items) c.self.view_is ∙ sym (length-read _ _)

use Rattle.std.proofs.Common.{◌∙◌, ap, sym}
use Rattle.circular_buffer.specs.Buffer.{Buffer}
use Rattle.lgp_history.specs.RecordedInside.{Recorded, orders_recorded}
use Rattle.lgp_history.proofs.RecordedSteps.{orders_in-read}
use Rattle.lgp_history.proofs.records.RecordsHistory.orders_kept.Goals as goal

pub returns : goal.returns
returns g c = λ now. c.count_orders.ensures ∙ ap (λ (b : Buffer Recorded). orders_recorded b.items) c.self.view_is ∙ sym (orders_in-read _ now)

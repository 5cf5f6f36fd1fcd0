use Rattle.std.proofs.Common.{arith}
use Rattle.lgp_history.proofs.KeptSteps.{leads-back}
use Rattle.lgp_history.proofs.RecordedSteps.{orders_in-read}
use Rattle.lgp_history.proofs.records.RecordsHistory.back.Goals as goal

pub undo_orders-requires-clause-recorded : goal.undo_orders-requires-clause-recorded
undo_orders-requires-clause-recorded g c = grind (arith, orders_in-read)

pub returns-clause-leads : goal.returns-clause-leads
returns-clause-leads g c =
    grind (arith, leads-back)

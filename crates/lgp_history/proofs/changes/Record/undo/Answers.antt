use Rattle.std.proofs.Common.{rules}
use Rattle.lgp_history.proofs.changes.Record.undo.Goals as goal

pub returns : goal.returns
returns g c = search rules

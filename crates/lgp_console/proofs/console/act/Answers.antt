use Rattle.std.proofs.Common.{rules}
use Rattle.lgp_console.proofs.console.act.Goals as goal

pub returns-in-StartRead-clause-tape : goal.returns-in-StartRead-clause-tape
returns-in-StartRead-clause-tape g c = search rules

use Rattle.std.proofs.Common.{rules}
use Rattle.lgp_source.proofs.cutting.line_of.Goals as goal

pub returns : goal.returns
returns c = search rules

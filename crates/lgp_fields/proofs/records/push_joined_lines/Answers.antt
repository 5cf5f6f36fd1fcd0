use Rattle.std.proofs.Common.{arith}
use Rattle.std.proofs.lemmas.Grind.{common_steps}
use Rattle.lgp_fields.proofs.PartLemmas.{lines-append}
use Rattle.lgp_fields.proofs.records.push_joined_lines.Goals as goal

pub returns : goal.returns
returns g c = grind (arith, common_steps, lines-append)

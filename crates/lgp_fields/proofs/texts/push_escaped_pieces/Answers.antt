use Rattle.std.proofs.Common.{arith}
use Rattle.std.proofs.lemmas.Grind.{common_steps}
use Rattle.lgp_fields.specs.Escaped.{escaped}
use Rattle.lgp_fields.proofs.EscapedLemmas.{escaped-append}
use Rattle.lgp_fields.proofs.texts.push_escaped_pieces.Goals as goal

pub loop-piece-preserved : goal.loop-piece-preserved
unfolding escaped
loop-piece-preserved g c = grind (arith, common_steps, escaped-append)

pub returns : goal.returns
unfolding escaped
returns g c = grind (arith, common_steps)

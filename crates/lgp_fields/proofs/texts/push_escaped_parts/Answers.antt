use Rattle.std.proofs.Common.{arith}
use Rattle.std.proofs.lemmas.Grind.{common_steps}
use Rattle.lgp_fields.specs.Escaped.{escaped, escaped_byte}
use Rattle.lgp_fields.specs.Seen.{order_text}
use Rattle.lgp_fields.proofs.texts.push_escaped_parts.Goals as goal

pub returns : goal.returns
unfolding order_text escaped escaped_byte
returns g c = grind (arith, common_steps)

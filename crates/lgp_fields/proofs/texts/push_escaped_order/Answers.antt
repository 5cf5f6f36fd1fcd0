use Rattle.std.proofs.Common.{arith}
use Rattle.std.proofs.lemmas.Grind.{common_steps}
use Rattle.lgp_fields.specs.Seen.{label_text, order_text}
use Rattle.lgp_fields.proofs.EscapedLemmas.{escaped-two}
use Rattle.lgp_fields.proofs.texts.push_escaped_order.Goals as goal

pub returns : goal.returns
returns g c =
    let e = escaped-two c.args.text.now.items (order_text c.args.minus c.args.letter c.args.address) (label_text c.args.label.now) in
    grind (arith, common_steps)

use Rattle.std.proofs.Common.{arith}
use Rattle.std.proofs.lemmas.Grind.{common_steps}
use Rattle.lgp_word.specs.Digits.{address_digits}
use Rattle.lgp_fields.specs.Seen.{label_text}
use Rattle.lgp_fields.proofs.EscapedLemmas.{escaped-two}
use Rattle.lgp_fields.proofs.texts.push_escaped_labelled.Goals as goal

pub returns : goal.returns
returns g c =
    let e = escaped-two c.args.text.now.items (address_digits c.args.address) (label_text c.args.label.now) in
    grind (arith, common_steps)

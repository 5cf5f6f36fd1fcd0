use Rattle.std.proofs.Common.{◌≡◌, ◌∙◌, Err, ap, arith}
use Rattle.std.proofs.lemmas.Grind.{common_steps}
use Rattle.lgp_flexo.specs.TapeText.{codes_of_text}
use Rattle.lgp_script.proofs.laboratory.Laboratory.mount_tape.Goals as goal

pub returns-in-Err-BadSign : goal.returns-in-Err-BadSign
returns-in-Err-BadSign g c =
    let bad : codes_of_text c.args.text.now ≡ Err c.in-Err-BadSign.place =
    (c.read_tape_text.ensures.bad_sign c.in-Err-BadSign.place).0 (c.in-Err-BadSign.is ∙ ap Err c.in-Err-BadSign.field-0-is) in
    rw bad (grind (arith, common_steps))

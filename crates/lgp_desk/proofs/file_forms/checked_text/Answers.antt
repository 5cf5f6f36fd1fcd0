use Rattle.std.proofs.Common.{◌≡◌, Err, ap}
use Rattle.lgp_flexo.specs.TapeText.{codes_of_text}
use Rattle.lgp_desk.proofs.FormLemmas.{tape-bad}
use Rattle.lgp_desk.proofs.file_forms.checked_text.Goals as goal

pub returns-in-Err-BadSign : goal.returns-in-Err-BadSign
returns-in-Err-BadSign g c =
    let bad : codes_of_text c.args.text.now ≡ Err c.in-Err-BadSign.place = (c.in-Err-BadSign.ensures.bad_sign c.in-Err-BadSign.place).0 (ap Err c.in-Err-BadSign.field-0-is) in
    rw (c.tape_trouble.ensures, c.in-Err-BadSign.place-is) (tape-bad _ c.in-Err-BadSign.place c.args.text.now bad)

use Rattle.std.proofs.Common.{◌∙◌, ap, Err}
use Rattle.lgp_script.proofs.TapeLemmas.{line_fits}
use Rattle.lgp_script.proofs.laboratory.tape_commands.read_codes.Goals as goal

pub unreachable-requires : goal.unreachable-requires
unreachable-requires g c =
    line_fits c.args.text.now c.requires (c.read_tape_text.ensures.too_long.0 (c.in-Err-TooLong.is ∙ ap Err c.in-Err-TooLong.field-0-is))

pub returns-in-Err-BadSign-clause-bad_place : goal.returns-in-Err-BadSign-clause-bad_place
returns-in-Err-BadSign-clause-bad_place g c =
    (c.read_tape_text.ensures.bad_sign c.in-Err-BadSign.place).0 (c.in-Err-BadSign.is ∙ ap Err c.in-Err-BadSign.field-0-is)

use Rattle.std.proofs.Common.{Ok, ap, append-nil, ◌∙◌}
use Rattle.lgp_flexo.specs.TapeText.{before}
use Rattle.lgp_flexo.proofs.Reading.{rest_from_end}
use Rattle.lgp_flexo.proofs.pieces.collect_codes.Goals as goal

pub returns : goal.returns
returns g c =
    c.loop-place.invariant
    ∙ ap (before c.loop-place.codes.items) (rest_from_end _ _ _ c.loop-place-test.false)
    ∙ ap Ok (append-nil c.loop-place.codes.items)

use Rattle.std.proofs.Common.{sym, ap, option_and_then, slice_get, ◌∙◌}
use Rattle.lgp_exchange.specs.Paper.{upper_signs}
use Rattle.lgp_exchange.proofs.carriage.upper_sign.Goals as goal

pub returns : goal.returns
returns c =
    c.sign_in_row.ensures ∙ sym (ap (option_and_then (slice_get upper_signs)) (sym c.place_in_row.ensures ∙ c.in_ok-place.was {u = tt}))

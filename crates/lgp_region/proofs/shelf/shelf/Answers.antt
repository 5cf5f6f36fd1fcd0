use Rattle.std.proofs.Common.{rules, ◌*◌, ◌^◌, ◌≤◌, ◌-◌, ◌/◌, ℕ, sym, subst}
use Rattle.std.specs.Int.{w64, leading_zeros}
use Rattle.lgp_region.specs.Room.{shelf_of}
use Rattle.lgp_region.proofs.RoomLemmas.{fits_block}
use Rattle.lgp_region.proofs.shelf.shelf.Goals as goal

pub returns-clause-number : goal.returns-clause-number
unfolding shelf_of
returns-clause-number c = search rules

pub returns-clause-fits : goal.returns-clause-fits
returns-clause-fits c =
    subst (λ (k : ℕ). c.args.size ≤ 16 * 2 ^ (64 - leading_zeros w64 (k / 16))) (sym c.saturating_sub.ensures) (fits_block _ c.ranges.size.fits)

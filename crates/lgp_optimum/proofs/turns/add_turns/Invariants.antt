use Rattle.std.proofs.Common.{◌≡◌, ℕ, ◌+◌, ◌-◌, ◌&&◌, length, nat_le, nat_lt, slice_index}
use Rattle.lgp_optimum.specs.TurnsInside.{is_late, one_turn_if}
use Rattle.lgp_optimum.proofs.turns.add_turns.Given as goal

abbrev pub invariant-loop-sector : goal.invariant-loop-sector
invariant-loop-sector l = record {
  long : length l.counts ≡ length l.fn.counts;
  turns : (at : ℕ) → slice_index l.counts at ≡ slice_index l.fn.counts at
      + one_turn_if (nat_le l.first at && nat_lt at (l.first + l.sector) && is_late l.room l.begun (at - l.first));
}

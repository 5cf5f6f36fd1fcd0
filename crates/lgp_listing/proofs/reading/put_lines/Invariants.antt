use Rattle.std.proofs.Common.{ℕ}
use Rattle.lgp_listing.proofs.ReadingSteps.{IsReadSo}
use Rattle.lgp_listing.proofs.reading.put_lines.Given as goal

abbrev pub invariant-loop-line : goal.invariant-loop-line
invariant-loop-line g l = record {
  can : (goal.iterator-loop-line g).can_next l.line-iterator;
  finite : (goal.iterator-loop-line g).is_finite l.line-iterator;
  number : ℕ;
  least : ℕ;
  so_far : IsReadSo number least l.drum l.line-iterator l.fn.text;
}

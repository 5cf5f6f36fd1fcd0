use Rattle.std.proofs.Common.{◌≡◌, ◌≤◌, ℕ, length, slice_get, slice_index, Some}
use Rattle.lgp_history.specs.NotingInside.{IsNoted}
use Rattle.lgp_history.specs.RecordedInside.{Recorded}
use Rattle.lgp_history.proofs.records.note_later.Given as goal

abbrev pub invariant-loop-left : goal.invariant-loop-left
invariant-loop-left g l = record {
  within : l.left ≤ length l.records.items;
  places : length l.changes ≡ 4096;
  grow : (address : ℕ) → slice_index l.initial.changes address ≤ slice_index l.changes address;
  later : (i : ℕ) → (r : Recorded) → l.left ≤ i → slice_get l.records.items i ≡ Some r → IsNoted l.changes r;
}

abbrev pub decreases-loop-left : goal.decreases-loop-left
decreases-loop-left g l = l.left

use Rattle.std.proofs.Common.{◌≡◌, ◌≤◌, take}
use Rattle.std.specs.Prelude.{All}
use Rattle.lgp_past.specs.PastInside.{Copied}
use Rattle.lgp_past.proofs.copied.keep_until.Given as goal

abbrev pub invariant-loop-index : goal.invariant-loop-index
invariant-loop-index g l = record {
  same : l.copies ≡ l.fn.copies;
  no_later : All (λ (copy : Copied). copy.orders ≤ l.order) (take l.index l.copies.items);
}

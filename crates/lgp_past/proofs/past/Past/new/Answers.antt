use Rattle.std.proofs.Common.{subst, sym}
use Rattle.lgp_past.specs.PastInside.{IsKept}
use Rattle.lgp_past.proofs.PastLemmas.{kept_new}
use Rattle.lgp_past.proofs.past.Past.new.Goals as goal

pub invariant_of-result : goal.invariant_of-result
invariant_of-result g c = (
  subst (λ es. IsKept (record { place = 0; within = 0; orders = 0; machine = c.args.first }) es 0 0 c.new-2.result.items) (sym c.new.ensures.items)
      (subst (λ copies. IsKept (record { place = 0; within = 0; orders = 0; machine = c.args.first }) _ 0 0 copies) (sym c.new-2.ensures.items) (kept_new _ c.requires)),
  λ h. cc,
)

-- The same refusal of two results.
use Rattle.std.proofs.Common.{◌≡◌, ◌<◌, ℕ, sym, ◌∙◌, Err}
use Rattle.std.specs.Prelude.{Result, ◌↔◌}
use Rattle.lgp_past.specs.declared.past.PastFault.{PastFault}
use Rattle.lgp_past.specs.declared.past.PastFault.TheVariants.{NotYet}

unwrapped : {X : Type 0} (fault other : PastFault) → ◌≡◌ {A = Result X PastFault} (Err fault) (Err other) → fault ≡ other
unwrapped fault other is = cc

wrapped : {X : Type 0} (fault other : PastFault) → fault ≡ other → ◌≡◌ {A = Result X PastFault} (Err fault) (Err other)
wrapped fault other is = cc

pub same_refusal : {X Y : Type 0} (fault : PastFault) (orders all other_all order : ℕ) → all ≡ other_all
    → ((◌≡◌ {A = Result X PastFault} (Err fault) (Err (NotYet orders))) ↔ ((orders ≡ all) × (orders < order)))
    → ((◌≡◌ {A = Result Y PastFault} (Err fault) (Err (NotYet orders))) ↔ ((orders ≡ other_all) × (orders < order)))
same_refusal fault orders all other_all order same told = (
  λ is. let it = told.0 (wrapped fault (NotYet orders) (unwrapped fault (NotYet orders) is)) in (it.0 ∙ same, it.1),
  λ it. wrapped fault (NotYet orders) (unwrapped fault (NotYet orders) (told.1 (it.0 ∙ sym same, it.1))),
)

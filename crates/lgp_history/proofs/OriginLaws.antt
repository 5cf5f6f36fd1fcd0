-- What the latest change says of the word that is there now, and of going back.
use Rattle.std.proofs.Common.{◌≡◌, ℕ, Bool, true, false, not, cond, List, [], ◌∷◌, ◌++◌, Option, Some, None, All, IsTrue, refl, sym, ◌∙◌, ap, eqb-true}
use Rattle.std.specs.Option.{option_or}
use Rattle.std.proofs.lemmas.List.Elements.{All-cons, All-nil}
use Rattle.lgp_table.specs.State.{State, word_at}
use Rattle.lgp_history.specs.Steps.{AreStepsTo, Leads, first_state, is_order, orders_in, steps_back}
use Rattle.lgp_history.specs.Origins.{IsOrigin, changed_at, latest_change, origin_of}
use Rattle.lgp_history.specs.declared.origin.Origin.{Origin}
use Rattle.lgp_history.specs.Step.{KeptStep}
use Rattle.lgp_history.proofs.StepLaws.{here_back, not_so_far, or_none, orders_in-append}

not_not : (b : Bool) → not b ≡ false → b ≡ true
not_not true e = refl
not_not false e = cc

not_taken : {Y : Type 0} (b : Bool) (y : Y) → cond b (Some y) None ≡ None → b ≡ false
not_taken true y e = cc
not_taken false y e = refl

-- where no step changed the word, none of them did
pub none_changed : (address : ℕ) (kept : List KeptStep) → latest_change address kept ≡ None → All (λ (k : KeptStep). changed_at address k ≡ false) kept
unfolding latest_change
none_changed address [] none = All-nil (λ (k : KeptStep). changed_at address k ≡ false)
none_changed address (k ∷ later) none =
    let both = or_none (latest_change address later) (cond (changed_at address k) (Some (origin_of address k (orders_in (k ∷ later)))) None) none in
    All-cons (λ (k : KeptStep). changed_at address k ≡ false) k later (not_taken (changed_at address k) (origin_of address k (orders_in (k ∷ later))) both.1) (none_changed address later both.0)

word_stays : (address : ℕ) (kept : List KeptStep) (now : State) → AreStepsTo now kept → latest_change address kept ≡ None → word_at now.core address ≡ word_at (first_state kept now).core address
unfolding latest_change
word_stays address [] now led none = refl
word_stays address (k ∷ later) now led none =
    let both = or_none (latest_change address later) (cond (changed_at address k) (Some (origin_of address k (orders_in (k ∷ later)))) None) none in
    let same = eqb-true _ _ (not_not _ (not_taken _ _ both.1)) in
    word_stays address later now led.2 both.0 ∙ ap (λ (s : State). word_at s.core address) (sym led.1) ∙ sym same

-- and the word is the one with which the kept steps begin
pub word_kept : (address : ℕ) (kept : List KeptStep) (now : State) → Leads kept now → latest_change address kept ≡ None → word_at now.core address ≡ word_at (first_state kept now).core address
word_kept address kept now led none = word_stays _ _ _ led.steps none

earlier_origin : (address : ℕ) (k : KeptStep) (later : List KeptStep) (now : State) (origin : Origin) → IsOrigin address later now origin → IsOrigin address (k ∷ later) now origin
earlier_origin address k later now origin o = record {
  earlier = k ∷ o.earlier;
  change = o.change;
  later = o.later;
  parts = ap (λ (ks : List KeptStep). k ∷ ks) o.parts;
  changed = o.changed;
  named = o.named;
  stands = o.stands;
  later_stay = o.later_stay;
}

this_origin : (address : ℕ) (k : KeptStep) (later : List KeptStep) (now : State) (origin : Origin) → AreStepsTo now (k ∷ later) → latest_change address later ≡ None
    → changed_at address k ≡ true → origin ≡ origin_of address k (orders_in (k ∷ later)) → IsOrigin address (k ∷ later) now origin
this_origin address k later now origin led none changed named = record {
  earlier = [];
  change = k;
  later = later;
  parts = refl;
  changed = changed;
  named = named;
  stands = word_stays _ _ _ led.2 none ∙ ap (λ (s : State). word_at s.core address) (sym led.1);
  later_stay = none_changed _ _ none;
}

by_change : (address : ℕ) (k : KeptStep) (later : List KeptStep) (now : State) (origin : Origin) (b : Bool) → AreStepsTo now (k ∷ later) → latest_change address later ≡ None → changed_at address k ≡ b
    → cond b (Some (origin_of address k (orders_in (k ∷ later)))) None ≡ Some origin → IsOrigin address (k ∷ later) now origin
by_change address k later now origin true led none changed e = this_origin _ k _ _ _ led none changed cc
by_change address k later now origin false led none changed e = cc

by_later_change : (address : ℕ) (k : KeptStep) (later : List KeptStep) (now : State) (origin : Origin) (o : Option Origin) → AreStepsTo now (k ∷ later) → latest_change address later ≡ o
    → ((other : Origin) → o ≡ Some other → IsOrigin address later now other)
    → option_or o (cond (changed_at address k) (Some (origin_of address k (orders_in (k ∷ later)))) None) ≡ Some origin → IsOrigin address (k ∷ later) now origin
by_later_change address k later now origin (Some other) led is ih e = earlier_origin _ k _ _ _ (ih origin e)
by_later_change address k later now origin None led is ih e = by_change _ k _ _ _ _ led is refl e

origin_found : (address : ℕ) (kept : List KeptStep) (now : State) (origin : Origin) → AreStepsTo now kept → latest_change address kept ≡ Some origin → IsOrigin address kept now origin
unfolding latest_change
origin_found address [] now origin led e = cc
origin_found address (k ∷ later) now origin led e =
    by_later_change _ k _ _ _ _ led refl (λ other q. origin_found _ _ _ _ led.2 q) e

pub word_came : (address : ℕ) (kept : List KeptStep) (now : State) (origin : Origin) → Leads kept now → latest_change address kept ≡ Some origin → IsOrigin address kept now origin
word_came address kept now origin led e = origin_found _ _ _ _ led.steps e

steps_back_to : (earlier : List KeptStep) (k : KeptStep) (later : List KeptStep) → is_order k.step ≡ true → steps_back (orders_in (k ∷ later)) (earlier ++ k ∷ later) ≡ earlier
steps_back_to [] k later order = rw (here_back k _ order) refl
steps_back_to (x ∷ xs) k later order =
    rw (not_so_far _ _ _ (orders_in-append xs _)) (ap (λ (ks : List KeptStep). x ∷ ks) (steps_back_to xs k _ order))

pub origin_back : (address : ℕ) (earlier : List KeptStep) (k : KeptStep) (later : List KeptStep) → IsTrue (is_order k.step)
    → latest_change address (steps_back (orders_in (k ∷ later)) (earlier ++ k ∷ later)) ≡ latest_change address earlier
origin_back address earlier k later order = ap (λ (ks : List KeptStep). latest_change address ks) (steps_back_to _ k _ order)

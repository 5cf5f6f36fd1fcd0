-- Orders done again, and last hits.
use Rattle.std.proofs.Common.{◌≡◌, ℕ, ◌+◌, ◌<◌, ◌≤◌, ◌==◌, ◌&&◌, Bool, true, false, cond, List, [], ◌∷◌, ◌++◌, length, suc, Option, Some, None, get_or, position, option_map, All, refl, sym, ◌∙◌, ap, subst, arith, true≢false}
use Rattle.std.specs.Option.{option_or}
use Rattle.std.proofs.lemmas.Bool.Decides.{nat_tests}
use Rattle.std.proofs.lemmas.List.Elements.{All-cons, All-nil}
use Rattle.std.proofs.lemmas.List.Quantifiers.{position-Some}
use Rattle.std.proofs.lemmas.List.Sums.{fails_before_first}
use Rattle.std.proofs.lemmas.Option.{slice_get-get_or}
use Rattle.lgp_table.specs.State.{State}
use Rattle.lgp_table.specs.Activity.{next}
use Rattle.lgp_history.specs.Steps.{AreStepsTo, Leads, is_order, is_order_back, orders_in, state_back, stepped}
use Rattle.lgp_history.specs.Hits.{first_hit, last_hit}
use Rattle.lgp_history.specs.Laws.{IsLastHit, PassesRules, performed_again}
use Rattle.lgp_history.specs.declared.rule.Rule.{Rule}
use Rattle.lgp_history.specs.declared.rule.Rule.TheVariants.{At}
use Rattle.lgp_history.specs.Step.{KeptStep, Step, Perform, Press, Idle, Mount, Put}
use Rattle.lgp_history.proofs.KeptSteps.{orders_in-within}

-- of all steps that are orders the first is one
first_is : (b : Bool) (orders steps : ℕ) → orders ≤ steps → cond b 1 0 + orders ≡ suc steps → b ≡ true
first_is true orders steps h e = refl
first_is false orders steps h e = absurd (omega arith)

rest_are : (b : Bool) (orders steps : ℕ) → orders ≤ steps → cond b 1 0 + orders ≡ suc steps → orders ≡ steps
rest_are true orders steps h e = omega arith
rest_are false orders steps h e = absurd (omega arith)

pub not_so_far : (b : Bool) (n more : ℕ) → n ≤ more → (b && (more + 1 == n)) ≡ false
not_so_far true n more h = grind (arith, nat_tests)
not_so_far false n more h = refl

untaken : (b : Bool) (x : ℕ) → cond b (Some x) None ≡ None → b ≡ false
untaken true x e = cc
untaken false x e = refl

pub or_none : {Y : Type 0} (a b : Option Y) → option_or a b ≡ None → (a ≡ None) × (b ≡ None)
or_none None b e = (refl, e)
or_none (Some y) b e = cc

abbrev found_from : ℕ → ℕ → ℕ × ℕ
found_from later number = (later + 1, number)

unmapped : (b : Bool) (later : ℕ) (o : Option ℕ) → cond b (option_map (found_from later) o) None ≡ None → cond b o None ≡ None
unmapped true later None e = refl
unmapped true later (Some number) e = cc
unmapped false later o e = refl

no_place : {Y : Type 0} (p : Y → Bool) (ys : List Y) → position p ys ≡ None → All (λ y. p y ≡ false) ys
no_place p ys none = grind (arith, untaken, fails_before_first)

order_here : (step : Step) → is_order step ≡ true → step ≡ Perform
order_here Perform e = refl
order_here (Press action) e = absurd (true≢false (sym e))
order_here (Idle times) e = absurd (true≢false (sym e))
order_here (Mount codes) e = absurd (true≢false (sym e))
order_here (Put address word) e = absurd (true≢false (sym e))

performed_on : (now : State) (k : KeptStep) (later : List KeptStep) → AreStepsTo now (k ∷ later) → orders_in (k ∷ later) ≡ suc (length later) → performed_again k.before (k ∷ later) ≡ now
performed_on now k [] led all =
    grind (arith, order_here, first_is)
performed_on now k (f ∷ later) led all =
    let few = orders_in-within (f ∷ later) in
    let step = order_here _ (first_is _ _ _ few all) in
    let next_is : next k.before ≡ f.before = subst (λ (step : Step). stepped step k.before ≡ f.before) step led.1 in
    ap (λ (s : State). performed_again s (f ∷ later)) next_is ∙ performed_on now f later led.2 (rest_are _ _ _ few all)

pub orders_in-append : (earlier later : List KeptStep) → orders_in later ≤ orders_in (earlier ++ later)
orders_in-append [] later = omega arith
orders_in-append (k ∷ earlier) later = omega (arith, orders_in-append earlier later)

pub here_back : (k : KeptStep) (later : List KeptStep) → is_order k.step ≡ true → is_order_back (orders_in (k ∷ later)) k later ≡ true
here_back k later order = rw order (grind (arith, nat_tests))

back_to : (earlier : List KeptStep) (k : KeptStep) (later : List KeptStep) (now : State) → is_order k.step ≡ true → state_back (orders_in (k ∷ later)) (earlier ++ k ∷ later) now ≡ k.before
back_to [] k later now order = rw (here_back k _ order) refl
back_to (x ∷ xs) k later now order =
    grind (arith, not_so_far, orders_in-append, back_to xs k later now order)

leads_later : (earlier later : List KeptStep) (now : State) → AreStepsTo now (earlier ++ later) → AreStepsTo now later
leads_later [] later now led = led
leads_later (k ∷ earlier) later now led = leads_later earlier later now led.2

pub again : (earlier later : List KeptStep) (now : State) → Leads (earlier ++ later) now → 0 < length later → orders_in later ≡ length later → performed_again (state_back (length later) (earlier ++ later) now) later ≡ now
again earlier [] now led some all = absurd (omega arith)
again earlier (k ∷ later) now led some all =
    let order = first_is _ _ _ (orders_in-within _) all in
    let back = ap (λ n. state_back n (earlier ++ k ∷ later) now) (sym all) ∙ back_to earlier k later now order in
    ap (λ (s : State). performed_again s (k ∷ later)) back ∙ performed_on _ k _ (leads_later earlier (k ∷ later) now led.steps) all

passes : (rules : List Rule) (k : KeptStep) → cond (is_order k.step) (first_hit rules k.before) None ≡ None → PassesRules rules k
passes rules k none = λ order. no_place _ _ (rw order at none)

pub none_hit : (rules : List Rule) (kept : List KeptStep) → last_hit rules kept ≡ None → All (PassesRules rules) kept
none_hit rules [] none = All-nil (PassesRules rules)
none_hit rules (k ∷ later) none =
    let both = or_none (last_hit rules later) (cond (is_order k.step) (option_map (found_from (orders_in later)) (first_hit rules k.before)) None) none in
    All-cons (PassesRules rules) k later (passes rules k (unmapped _ _ _ both.1)) (none_hit rules later both.0)

later_hit : (rules : List Rule) (k : KeptStep) (later : List KeptStep) (hit : ℕ × ℕ) → IsLastHit rules later hit → IsLastHit rules (k ∷ later) hit
later_hit rules k later hit h = record {
  earlier = k ∷ h.earlier;
  order = h.order;
  later = h.later;
  parts = ap (λ (ks : List KeptStep). k ∷ ks) h.parts;
  is_an_order = h.is_an_order;
  orders_back = h.orders_back;
  rule = h.rule;
  numbered = h.numbered;
  hits = h.hits;
  later_pass = h.later_pass;
}

this_hit : (rules : List Rule) (k : KeptStep) (later : List KeptStep) (number : ℕ) → is_order k.step ≡ true → first_hit rules k.before ≡ Some number → last_hit rules later ≡ None → IsLastHit rules (k ∷ later) (orders_in later + 1, number)
this_hit rules k later number order first none =
    let place = position-Some _ _ _ _ first in
    record {
      earlier = [];
      order = k;
      later = later;
      parts = refl;
      is_an_order = order;
      orders_back = refl;
      rule = get_or rules number (At 0);
      numbered = slice_get-get_or _ _ _ place.0;
      hits = place.1;
      later_pass = none_hit _ _ none;
    }

by_parts : (rules : List Rule) (k : KeptStep) (later : List KeptStep) (hit : ℕ × ℕ) (b : Bool) (o : Option ℕ) → last_hit rules later ≡ None → is_order k.step ≡ b → first_hit rules k.before ≡ o
    → cond b (option_map (found_from (orders_in later)) o) None ≡ Some hit → IsLastHit rules (k ∷ later) hit
by_parts rules k later hit true (Some number) none order first e =
    grind (arith, this_hit)
by_parts rules k later hit true None none order first e = cc
by_parts rules k later hit false o none order first e = cc

by_later : (rules : List Rule) (k : KeptStep) (later : List KeptStep) (hit : ℕ × ℕ) (o : Option (ℕ × ℕ)) → last_hit rules later ≡ o → ((h : ℕ × ℕ) → o ≡ Some h → IsLastHit rules later h)
    → option_or o (cond (is_order k.step) (option_map (found_from (orders_in later)) (first_hit rules k.before)) None) ≡ Some hit → IsLastHit rules (k ∷ later) hit
by_later rules k later hit (Some h) is ih e = later_hit _ k _ _ (ih hit e)
by_later rules k later hit None is ih e = by_parts _ k _ _ _ _ is refl refl e

pub hit_last : (rules : List Rule) (kept : List KeptStep) (hit : ℕ × ℕ) → last_hit rules kept ≡ Some hit → IsLastHit rules kept hit
hit_last rules [] hit e = cc
hit_last rules (k ∷ later) hit e = by_later _ k _ _ _ refl (λ h q. hit_last _ _ h q) e

-- Where words came from, read off the records.
use Rattle.std.proofs.Common.{◌≡◌, ◌≢◌, ℕ, ◌-◌, ◌<◌, ◌==◌, Bool, true, false, not, cond, List, [], ◌∷◌, drop, get_or, set, Option, Some, None, zero, suc, option_map, refl, sym, ◌∙◌, ap, subst, arith, length, slice_get, eqb-true, get_or-set_other, get_or-set_same, ltb-true}
use Rattle.std.proofs.lemmas.Bool.Decides.{nat_tests}
use Rattle.lgp_word.specs.declared.order.Op.{Op}
use Rattle.lgp_word.specs.declared.order.Op.TheVariants.{Z, B, Y, R, I, D, N, M, P, E, U, T, H, C, A, S}
use Rattle.lgp_table.specs.State.{Core, State, word_at}
use Rattle.lgp_table.specs.Rows.{row}
use Rattle.lgp_table.specs.Activity.{begun_in, begun_order, core_after, core_after_begun, next, place_in}
use Rattle.lgp_table.specs.declared.panel.Status.{Status}
use Rattle.lgp_table.specs.declared.panel.Status.TheVariants.{Halted, Going, Executing, Waiting, Reading}
use Rattle.lgp_machine.specs.Marks.{words_with}
use Rattle.lgp_history.specs.Steps.{Leads, first_state, stepped}
use Rattle.lgp_history.specs.Hits.{is_going}
use Rattle.lgp_history.specs.Origins.{changed_at, changer_of, latest_change, origin_of, word_or_register}
use Rattle.lgp_history.specs.RecordedInside.{Recorded, can_restore, lost_at, orders_recorded, read, recorded_changer, undone}
use Rattle.lgp_history.specs.declared.origin.Changer.{Changer}
use Rattle.lgp_history.specs.declared.origin.Origin.{Origin}
use Rattle.lgp_history.specs.Step.{KeptStep, step_from}
use Rattle.lgp_history.proofs.RecordedSteps.{and_left, and_right, belonging, differs_too, drop-before, leads-read, order_is, orders_in-read, read-drop, same_not_different, undone-belonging, with_tape-words}

-- an order leaves the instruction register
row_register : (op : Op) (minus : Bool) (m : ℕ) (core : Core) → (row op minus m core).core.panel.register ≡ core.panel.register
row_register Z minus m core = refl
row_register B minus m core = refl
row_register Y minus m core = refl
row_register R minus m core = refl
row_register I minus m core = refl
row_register D minus m core = refl
row_register N minus m core = refl
row_register M minus m core = refl
row_register P minus m core = refl
row_register E minus m core = refl
row_register U minus m core = refl
row_register T minus m core = refl
row_register H minus m core = refl
row_register C minus m core = refl
row_register A minus m core = refl
row_register S minus m core = refl

register_by : (status : Status) (core : Core)
    → (core_after_begun (begun_in status core) status core).panel.register ≡ word_or_register (begun_in status core) core
register_by (Halted cause) core = refl
register_by Going core =
    grind (arith, row_register)
register_by Executing core =
    grind (arith, row_register)
register_by Waiting core = refl
register_by Reading core = refl

-- so after an activity its order is there
register_after : (s : State) → (next s).core.panel.register ≡ word_or_register (begun_order s.core) s.core
unfolding core_after
register_after s = register_by s.core.panel.status s.core

place_going : (status : Status) (core : Core) → place_in (begun_in status core) ≡ cond (is_going status) (Some core.panel.counter) None
place_going (Halted cause) core = refl
place_going Going core = refl
place_going Executing core = refl
place_going Waiting core = refl
place_going Reading core = refl

-- the word that is put back, where it is another one
lost_as_change : (words : List ℕ) (lost : Option (ℕ × ℕ)) (a : ℕ) → can_restore lost words ≡ true
    → cond (not (get_or (words_with words lost) a 0 == get_or words a 0)) (Some (get_or (words_with words lost) a 0)) None ≡ lost_at lost a
lost_as_change words None a ok = rw (same_not_different _) refl
lost_as_change words (Some (b, w)) a ok =
    let within : b < length words = ltb-true b (length words) (and_left _ _ ok) in
    let same = get_or-set_same words b w 0 within in
    let other : not (get_or words b 0 == w) ≡ true = and_right _ _ ok in
    let differs = differs_too _ w other in
    elim (b == a) as (λ t. (b == a) ≡ t → cond (not (get_or (set words b w) a 0 == get_or words a 0)) (Some (get_or (set words b w) a 0)) None ≡ cond t (Some w) None) [
      | true ↦ λ e. subst (λ (n : ℕ). cond (not (get_or (set words b w) n 0 == get_or words n 0)) (Some (get_or (set words b w) n 0)) None ≡ Some w) (eqb-true b a e) (rw (same, differs) refl)
      | false ↦ λ e. let apart : a ≢ b = grind (arith, nat_tests) in rw (get_or-set_other words b a w 0 apart, same_not_different (get_or words a 0)) refl
    ] refl

-- an origin by what did the step and the word that it lost
abbrev pub came : Changer → ℕ → Origin
came changer lost = record { changer = changer; lost = lost }

came-mapped : (b : Bool) (changer : Changer) (lost : ℕ) → cond b (Some (came changer lost)) None ≡ option_map (came changer) (cond b (Some lost) None)
came-mapped true changer lost = refl
came-mapped false changer lost = refl

-- where no step is kept no word was changed
pub no_change : (address : ℕ) → latest_change address [] ≡ None
unfolding latest_change
no_change address = refl

-- what did the recorded step
changer_as_recorded : (r : Recorded) (before after : State) (register n : ℕ) → before.core.panel ≡ r.mark.panel → before.clock ≡ r.mark.clock → stepped r.step before ≡ after → register ≡ after.core.panel.register
    → changer_of (step_from before r.step) n ≡ recorded_changer r register n
changer_as_recorded r before after register n panel clock leads held =
    grind (arith, order_is, register_after, place_going)

-- the origin that a recorded step is of the word at an address
came_as_recorded : (r : Recorded) (after : State) (address register n : ℕ) → stepped r.step (undone r after) ≡ after → register ≡ after.core.panel.register
    → cond (changed_at address (step_from (undone r after) r.step)) (Some (origin_of address (step_from (undone r after) r.step) n)) None ≡ option_map (came (recorded_changer r register n)) (lost_at r.lost address)
came_as_recorded r after address register n leads held =
    let ok = belonging r _ leads in
    let is = undone-belonging r _ ok in
    let words : (undone r after).core.words ≡ words_with after.core.words r.lost =
    ap (λ (s : State). s.core.words) is ∙ ap (λ (ws : List ℕ). words_with ws r.lost) (with_tape-words _ _ _) in
    let changer = changer_as_recorded r _ _ _ n (ap (λ (s : State). s.core.panel) is) (ap (λ (s : State). s.clock) is) leads held in
    ap (λ (s : State). cond (not (word_at (undone r after).core address == word_at s.core address)) (Some (origin_of address (step_from (undone r after) r.step) n)) None) leads
    ∙ ap (λ (ch : Changer). cond (not (word_at (undone r after).core address == word_at after.core address)) (Some (came ch (word_at (undone r after).core address))) None) changer
    ∙ ap (λ (ws : List ℕ). cond (not (get_or ws address 0 == word_at after.core address)) (Some (came (recorded_changer r register n) (get_or ws address 0))) None) words
    ∙ came-mapped _ _ _
    ∙ ap (λ (o : Option ℕ). option_map (came (recorded_changer r register n)) o) (lost_as_change after.core.words r.lost address (and_right _ _ ok))

latest_change-next : (address : ℕ) (r : Recorded) (later : List Recorded) (now : State) (register : ℕ) → Leads (read (r ∷ later) now) now → latest_change address (read later now) ≡ None
    → register ≡ (first_state (read later now) now).core.panel.register
    → latest_change address (read (r ∷ later) now) ≡ option_map (came (recorded_changer r register (orders_recorded (r ∷ later)))) (lost_at r.lost address)
unfolding latest_change
latest_change-next address r later now register led none held =
    grind (arith, orders_in-read, came_as_recorded)

latest_change-drop : (address n : ℕ) (kept : List KeptStep) (origin : Origin) → latest_change address (drop n kept) ≡ Some origin → latest_change address kept ≡ Some origin
unfolding latest_change
latest_change-drop address zero kept origin e = e
latest_change-drop address (suc n) [] origin e = e
latest_change-drop address (suc n) (k ∷ ks) origin e = rw (latest_change-drop _ n ks _ e) refl

-- the steps from the record before an index on
module _ (address : ℕ) (rs : List Recorded) (now : State) (i : ℕ) (r : Recorded) (register : ℕ) (led : Leads (read rs now) now) (some : 0 < i) (is : slice_get rs (i - 1) ≡ Some r) where
  here : drop (i - 1) rs ≡ r ∷ drop i rs
  here = drop-before rs i r some is

  led-here : Leads (read (r ∷ drop i rs) now) now
  led-here = subst (λ (xs : List Recorded). Leads (read xs now) now) here (leads-read _ rs _ led)

  change-before : latest_change address (read (drop i rs) now) ≡ None → register ≡ (first_state (read (drop i rs) now) now).core.panel.register
      → latest_change address (read (drop (i - 1) rs) now) ≡ option_map (came (recorded_changer r register (orders_recorded (drop (i - 1) rs)))) (lost_at r.lost address)
  change-before none held =
      ap (λ (xs : List Recorded). latest_change address (read xs now)) here
      ∙ latest_change-next _ r _ _ _ led-here none held
      ∙ ap (λ (xs : List Recorded). option_map (came (recorded_changer r register (orders_recorded xs))) (lost_at r.lost address)) (sym here)

pub register-before : (rs : List Recorded) (now : State) (i : ℕ) (r : Recorded) → Leads (read rs now) now → 0 < i → slice_get rs (i - 1) ≡ Some r
    → r.mark.panel.register ≡ (first_state (read (drop (i - 1) rs) now) now).core.panel.register
register-before rs now i r led some is =
    let ok = belonging r _ (led-here 0 rs now i r 0 led some is).steps.1 in
    sym (ap (λ (xs : List Recorded). (first_state (read xs now) now).core.panel.register) (drop-before rs i r some is)
    ∙ ap (λ (s : State). s.core.panel.register) (undone-belonging r _ ok))

-- a record that lost no word there is passed, one that did is the origin
pub change-passed : (address : ℕ) (rs : List Recorded) (now : State) (i : ℕ) (r : Recorded) (register : ℕ) → Leads (read rs now) now → 0 < i → slice_get rs (i - 1) ≡ Some r
    → latest_change address (read (drop i rs) now) ≡ None → register ≡ (first_state (read (drop i rs) now) now).core.panel.register
    → lost_at r.lost address ≡ None → latest_change address (read (drop (i - 1) rs) now) ≡ None
change-passed address rs now i r register led some is none held stays =
    change-before address rs now i r register led some is none held
    ∙ ap (λ (o : Option ℕ). option_map (came (recorded_changer r register (orders_recorded (drop (i - 1) rs)))) o) stays

pub change-found : (address : ℕ) (rs : List Recorded) (now : State) (i : ℕ) (r : Recorded) (register : ℕ) → Leads (read rs now) now → 0 < i → slice_get rs (i - 1) ≡ Some r
    → latest_change address (read (drop i rs) now) ≡ None → register ≡ (first_state (read (drop i rs) now) now).core.panel.register
    → (lost : ℕ) → lost_at r.lost address ≡ Some lost → latest_change address (read rs now) ≡ Some (came (recorded_changer r register (orders_recorded (drop (i - 1) rs))) lost)
change-found address rs now i r register led some is none held lost loses =
    latest_change-drop _ _ _ _
    (ap (λ (ks : List KeptStep). latest_change address ks) (sym (read-drop _ rs _))
    ∙ change-before address rs now i r register led some is none held
    ∙ ap (λ (o : Option ℕ). option_map (came (recorded_changer r register (orders_recorded (drop (i - 1) rs)))) o) loses)

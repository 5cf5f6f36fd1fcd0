-- Where loading meets the end of the clock.
use Rattle.std.proofs.Common.{◌≡◌, ℕ, zero, suc, ◌+◌, ◌-◌, ◌<◌, ◌≤◌, true, false, cond, refl, sym, ap, ◌∙◌, arith, List, [], ◌∷◌, Option, Some, None, length, map, slice_index, subst, take, take_all}
use Rattle.std.specs.List.{find, range_with_len}
use Rattle.std.specs.Option.{option_or}
use Rattle.std.proofs.lemmas.Bool.Decides.{nat_tests}
use Rattle.std.proofs.lemmas.List.Folds.{find-append}
use Rattle.lgp_table.specs.State.{State}
use Rattle.lgp_table.specs.Activity.{cost, next}
use Rattle.lgp_table.specs.After.{after}
use Rattle.lgp_table.specs.Interleaving.{Configuration, at_boundary}
use Rattle.lgp_table.proofs.After.{after_none, after_one_more}
use Rattle.lgp_machine.specs.Answers.{clock_end, passes_clock_end}
use Rattle.lgp_keyin.specs.KeyIn.{about_to_jump, about_to_store, keyed, words_keyed}
use Rattle.lgp_keyin.specs.Keyed.{before_store}
use Rattle.lgp_loader.specs.Loading.{TapeLoad, begun, loaded, loading_stopped, order_states, prepared, store_states}
use Rattle.lgp_assembler.specs.Parts.{loader_base}
use Rattle.lgp_loader.proofs.Ready.{begun_later, clock_later, loading_time}

-- an activity within the clock, and one past its end
fits : (s : State) → s.clock + cost s ≤ clock_end → passes_clock_end s ≡ false
fits s within = grind (arith, nat_tests)

passes : (s : State) → clock_end < s.clock + cost s → passes_clock_end s ≡ true
passes s past = grind (arith, nat_tests)

-- the first of states that are given by their number
module _ (f : ℕ → State) where
  none_of : (first count : ℕ) → ((k : ℕ) → k < count → passes_clock_end (f (first + k)) ≡ false)
      → find passes_clock_end (map f (range_with_len first count)) ≡ None
  none_of first zero calm = refl
  none_of first (suc count) calm =
      let here : passes_clock_end (f first) ≡ false = ap (λ n. passes_clock_end (f n)) (let e : first ≡ first + 0 = omega arith in e) ∙ calm 0 (omega arith) in
      ap (λ b. cond b (Some (f first)) (find passes_clock_end (map f (range_with_len (first + 1) count)))) here
      ∙ none_of (first + 1) count (λ k less. ap (λ n. passes_clock_end (f n)) (let e : first + 1 + k ≡ first + (k + 1) = omega arith in e) ∙ calm (k + 1) (omega (arith, less)))

  first_of : (first count done : ℕ) → done < count → ((k : ℕ) → k < done → passes_clock_end (f (first + k)) ≡ false) → passes_clock_end (f (first + done)) ≡ true
      → find passes_clock_end (map f (range_with_len first count)) ≡ Some (f (first + done))
  first_of first zero done less _ _ = absurd (let wrong : ⊥ = omega (arith, less) in wrong)
  first_of first (suc count) zero less calm past =
      grind (arith, f)
  first_of first (suc count) (suc done) less calm past =
      let here : passes_clock_end (f first) ≡ false = ap (λ n. passes_clock_end (f n)) (let e : first ≡ first + 0 = omega arith in e) ∙ calm 0 (omega arith) in
      let same : first + 1 + done ≡ first + suc done = omega arith in
      ap (λ b. cond b (Some (f first)) (find passes_clock_end (map f (range_with_len (first + 1) count)))) here
      ∙ (first_of (first + 1) count done (omega (arith, less))
      (λ k below. ap (λ n. passes_clock_end (f n)) (let e : first + 1 + k ≡ first + (k + 1) = omega arith in e) ∙ calm (k + 1) (omega (arith, below)))
      (ap (λ n. passes_clock_end (f n)) same ∙ past)
      ∙ ap (λ n. Some (f n)) same)

-- the same for the states of stores and of orders
no_store : (s : State) (base : ℕ) (words : List ℕ) → ((k : ℕ) → k < length words → passes_clock_end (before_store s base words k) ≡ false)
    → find passes_clock_end (store_states s base words) ≡ None
unfolding store_states
no_store s base words calm =
    none_of _ 0 (length words) (λ k less. ap (λ n. passes_clock_end (before_store s base words n)) (let e : 0 + k ≡ k = omega arith in e) ∙ calm k less)

first_store : (s : State) (base : ℕ) (words : List ℕ) (done : ℕ) → done < length words → ((k : ℕ) → k < done → passes_clock_end (before_store s base words k) ≡ false)
    → passes_clock_end (before_store s base words done) ≡ true → find passes_clock_end (store_states s base words) ≡ Some (before_store s base words done)
unfolding store_states
first_store s base words done less calm past =
    let same : 0 + done ≡ done = omega arith in
    first_of (before_store s base words) 0 (length words) done less (λ k below. ap (λ n. passes_clock_end (before_store s base words n)) (let e : 0 + k ≡ k = omega arith in e) ∙ calm k below)
    (ap (λ n. passes_clock_end (before_store s base words n)) same ∙ past)
    ∙ ap (λ n. Some (before_store s base words n)) same

no_order : (s : State) (count : ℕ) → ((k : ℕ) → k < count → passes_clock_end (after s k) ≡ false) → find passes_clock_end (order_states s count) ≡ None
unfolding order_states
no_order s count calm = none_of _ 0 count (λ k less. ap (λ n. passes_clock_end (after s n)) (let e : 0 + k ≡ k = omega arith in e) ∙ calm k less)

first_order : (s : State) (count done : ℕ) → done < count → ((k : ℕ) → k < done → passes_clock_end (after s k) ≡ false) → passes_clock_end (after s done) ≡ true
    → find passes_clock_end (order_states s count) ≡ Some (after s done)
unfolding order_states
first_order s count done less calm past =
    let same : 0 + done ≡ done = omega arith in
    first_of (after s) 0 count done less (λ k below. ap (λ n. passes_clock_end (after s n)) (let e : 0 + k ≡ k = omega arith in e) ∙ calm k below)
    (ap (λ n. passes_clock_end (after s n)) same ∙ past)
    ∙ ap (λ n. Some (after s n)) same

-- one word more stored
store_more : (s : State) (base : ℕ) (words : List ℕ) (k : ℕ) → k < length words
    → words_keyed s base (take (suc k) words) ≡ next (about_to_store (words_keyed s base (take k words)) (base + k) (slice_index words k))
unfolding words_keyed
store_more s base [] k less = absurd (let wrong : ⊥ = omega (arith, less) in wrong)
store_more s base (word ∷ words) zero less = ap (λ n. next (about_to_store s n word)) (let e : base ≡ base + 0 = omega arith in e)
store_more s base (word ∷ words) (suc k) less =
    let t = next (about_to_store s base word) in
    store_more t _ _ k (omega (arith, less))
    ∙ ap (λ n. next (about_to_store (words_keyed t (base + 1) (take k words)) n (slice_index words k))) (let e : base + 1 + k ≡ base + suc k = omega arith in e)

-- the clock while words are stored
pub keyed_clock : (s : State) (base : ℕ) (words : List ℕ) (k : ℕ) → k < length words
    → (before_store s base words k).clock + cost (before_store s base words k) ≡ (keyed s base (take (k + 1) words)).clock
keyed_clock s base words k less =
    grind (arith, store_more, less)

keyed_grows : (s : State) (base : ℕ) (words : List ℕ) (k more : ℕ) → k + more ≤ length words
    → (keyed s base (take k words)).clock ≤ (keyed s base (take (k + more) words)).clock
keyed_grows s base words k zero le =
    grind arith
keyed_grows s base words k (suc more) le =
    grind (arith, keyed_clock, keyed_grows s base words k more (omega (arith, le)))

-- a store before others ends before they begin
store_fits : (s : State) (base : ℕ) (words : List ℕ) (k done : ℕ) → k < done → done ≤ length words
    → (keyed s base (take done words)).clock ≤ clock_end → passes_clock_end (before_store s base words k) ≡ false
store_fits s base words k done below within clock =
    let left : k + 1 + (done - (k + 1)) ≡ done = omega (arith, below) in
    let later : (keyed s base (take (k + 1) words)).clock ≤ (keyed s base (take (k + 1 + (done - (k + 1))) words)).clock =
    keyed_grows s _ _ _ _ (omega (arith, left, within)) in
    let same : (keyed s base (take (k + 1 + (done - (k + 1))) words)).clock ≡ (keyed s base (take done words)).clock = ap (λ n. (keyed s base (take n words)).clock) left in
    fits (before_store s base words k) (omega (arith, keyed_clock s base words k (omega (arith, below, within)), later, same, clock))

order_fits : (s : State) (k done : ℕ) → k < done → (after s done).clock ≤ clock_end → passes_clock_end (after s k) ≡ false
order_fits s k done below clock =
    let one : (after s (k + 1)).clock ≡ (after s k).clock + cost (after s k) = ap (λ (t : State). t.clock) (after_one_more s k) in
    let later = clock_later s (k + 1) done (omega (arith, below)) in
    fits (after s k) (omega (arith, one, later, clock))

-- no store of the loader passes the end where the clock after them all is within it
stores_fit : (s : State) (load : TapeLoad) → (keyed s loader_base load.loader).clock ≤ clock_end → find passes_clock_end (store_states s loader_base load.loader) ≡ None
stores_fit s load clock = no_store s _ _ (λ k less. store_fits s _ _ k _ less (omega arith)
    (subst (λ words. (keyed s loader_base words).clock ≤ clock_end) (sym (take_all (length load.loader) load.loader (omega arith))) clock))

jump_fits : (s : State) (load : TapeLoad) → (begun s load).clock ≤ clock_end → passes_clock_end (about_to_jump (prepared s load) loader_base) ≡ false
jump_fits s load clock = fits (about_to_jump (prepared s load) loader_base) clock

-- the first of all states of loading, by the parts
after_stores : (s : State) (load : TapeLoad) → (keyed s loader_base load.loader).clock ≤ clock_end
    → loading_stopped s load
    ≡ find passes_clock_end (about_to_jump (prepared s load) loader_base ∷ order_states (begun s load) load.orders)
unfolding loading_stopped
after_stores s load clock =
    let others = about_to_jump (prepared s load) loader_base ∷ order_states (begun s load) load.orders in
    find-append passes_clock_end (store_states s loader_base load.loader) others ∙ ap (λ o. option_or o (find passes_clock_end others)) (stores_fit s load clock)

after_jump : (s : State) (load : TapeLoad) → (begun s load).clock ≤ clock_end
    → loading_stopped s load ≡ find passes_clock_end (order_states (begun s load) load.orders)
after_jump s load clock =
    grind (arith, begun_later, after_stores, jump_fits)

stopped_in_store : (s : State) (load : TapeLoad) (done : ℕ) → done < length load.loader
    → (before_store s loader_base load.loader done).clock ≤ clock_end → passes_clock_end (before_store s loader_base load.loader done) ≡ true
    → loading_stopped s load ≡ Some (before_store s loader_base load.loader done)
unfolding loading_stopped
stopped_in_store s load done less clock past =
    let others = about_to_jump (prepared s load) loader_base ∷ order_states (begun s load) load.orders in
    let found = first_store s loader_base load.loader done less (λ k below. store_fits s loader_base load.loader k done below (omega (arith, less)) clock) past in
    find-append passes_clock_end (store_states s loader_base load.loader) others ∙ ap (λ o. option_or o (find passes_clock_end others)) found

stopped_in_jump : (s : State) (load : TapeLoad)
    → (about_to_jump (prepared s load) loader_base).clock ≤ clock_end → passes_clock_end (about_to_jump (prepared s load) loader_base) ≡ true
    → loading_stopped s load ≡ Some (about_to_jump (prepared s load) loader_base)
stopped_in_jump s load clock past =
    grind (arith, after_stores)

stopped_in_order : (s : State) (load : TapeLoad) (done : ℕ) → done < load.orders
    → (after (begun s load) done).clock ≤ clock_end → passes_clock_end (after (begun s load) done) ≡ true
    → loading_stopped s load ≡ Some (after (begun s load) done)
stopped_in_order s load done less clock past =
    let none : (after (begun s load) 0).clock ≡ (begun s load).clock = ap (λ (t : State). t.clock) (after_none (begun s load)) in
    let later = clock_later (begun s load) 0 done (omega arith) in
    after_jump s load (omega (arith, none, later, clock))
    ∙ first_order (begun s load) load.orders done less (λ k below. order_fits (begun s load) k done below clock) past

-- a boundary of some state, and what is known of it there
found_at : (now : Configuration) (t : State) (found : Option State) → now ≡ at_boundary t → now.state.clock ≤ clock_end → clock_end < now.state.clock + cost now.state
    → (t.clock ≤ clock_end → passes_clock_end t ≡ true → found ≡ Some t) → found ≡ Some now.state
found_at now t found at within past is =
    grind arith

-- where a machine is whose next activity would pass the end, about to store a word, to start the loader or to perform one of
-- its orders, loading stops there: the clock goes on by what the activities cost, so none before it would
pub stops_in_store : (s : State) (load : TapeLoad) (now : Configuration)
    → (done : ℕ) × (done < length load.loader) × (now ≡ at_boundary (before_store s loader_base load.loader done))
    → now.state.clock ≤ clock_end → clock_end < now.state.clock + cost now.state → loading_stopped s load ≡ Some now.state
stops_in_store s load now (done, less, at) within past =
    found_at _ _ _ at within past (stopped_in_store s _ _ less)

pub stops_in_jump : (s : State) (load : TapeLoad) (now : Configuration)
    → now ≡ at_boundary (about_to_jump (prepared s load) loader_base)
    → now.state.clock ≤ clock_end → clock_end < now.state.clock + cost now.state → loading_stopped s load ≡ Some now.state
stops_in_jump s load now at within past =
    found_at _ _ _ at within past (stopped_in_jump s _)

pub stops_in_order : (s : State) (load : TapeLoad) (now : Configuration)
    → (done : ℕ) × (done < load.orders) × (now ≡ at_boundary (after (begun s load) done))
    → now.state.clock ≤ clock_end → clock_end < now.state.clock + cost now.state → loading_stopped s load ≡ Some now.state
stops_in_order s load now (done, less, at) within past =
    found_at _ _ _ at within past (stopped_in_order s _ _ less)

-- a boundary of some state is one of the machine's own
pub own_boundary : (now : Configuration) (s : State) → now ≡ at_boundary s → now ≡ at_boundary now.state
own_boundary now s e = e ∙ ap at_boundary (sym (ap (λ (c : Configuration). c.state) e))

-- and where the clock after loading is within the end, nowhere
pub stopped_nowhere : (s : State) (load : TapeLoad) → (loaded s load).clock ≤ clock_end → loading_stopped s load ≡ None
stopped_nowhere s load clock =
    let time = loading_time s load in
    after_jump s load (omega (arith, time, clock))
    ∙ no_order (begun s load) load.orders (λ k less. order_fits _ k _ less clock)

pub ruleset loading_stops = (stopped_nowhere)

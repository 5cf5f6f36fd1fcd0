-- A loader that has been started, and what its run leaves.
use Rattle.std.proofs.Common.{◌≡◌, ℕ, zero, suc, ◌+◌, ◌<◌, ◌%◌, ◌^◌, ◌==◌, ◌&&◌, nat_lt, Bool, true, false, refl, sym, ap, ◌∙◌, arith, List, [], ◌∷◌, length, slice_set}
use Rattle.std.specs.List.{All, count_by, list_all}
use Rattle.std.proofs.lemmas.Bool.{and_parts}
use Rattle.std.proofs.lemmas.Bool.Decides.{nat_tests}
use Rattle.std.proofs.lemmas.List.{length-set}
use Rattle.lgp_word.specs.Word.{IsWord}
use Rattle.lgp_table.specs.State.{Core, State, core_of}
use Rattle.lgp_table.specs.Console.{is_at_rest}
use Rattle.lgp_table.specs.Activity.{next}
use Rattle.lgp_table.specs.After.{after, total_cost}
use Rattle.lgp_table.specs.Interleaving.{after_events, after_mount, at_boundary}
use Rattle.lgp_table.specs.SwitchPresses.{is_time_or_switch, is_word_time, with_switches}
use Rattle.lgp_table.specs.declared.action.Event.{Event}
use Rattle.lgp_table.specs.declared.panel.Panel.{Panel}
use Rattle.lgp_table.specs.declared.panel.Switches.{Switches}
use Rattle.lgp_table.proofs.Pressed.{switches_pressed}
use Rattle.lgp_keyin.specs.KeyIn.{about_to_jump, jump_order, keyed, started}
use Rattle.lgp_keyin.specs.Keyed.{panel_after_store, panel_after_words, started_panel, state_after_words, state_when_started, words_from}
use Rattle.lgp_keyin.proofs.ByHand.{keyed_are, started_by_hand}
use Rattle.lgp_loader.specs.Loading.{IsLoader, TapeLoad, begun, loaded, prepared}
use Rattle.lgp_assembler.specs.Parts.{loader_base}
use Rattle.lgp_loader.proofs.Orders.{IsCalm, core_at, off}
use Rattle.lgp_loader.proofs.Runs.{Runs, calm_at, state_after_run}

-- numbers that are words, by computation
unfoldable pub is_word : ℕ → Bool
is_word word = nat_lt word (2 ^ 32) && (word % 2 == 0)

pub all_words : (words : List ℕ) → list_all is_word words ≡ true → All IsWord words
unfolding is_word
all_words [] all k d less = absurd (let wrong : ⊥ = omega (arith, less) in wrong)
all_words (word ∷ words) all zero d less = let (here, others) = and_parts (is_word word) (list_all is_word words) all in grind (arith, nat_tests)
all_words (word ∷ words) all (suc k) d less = let (here, others) = and_parts (is_word word) (list_all is_word words) all in all_words words others k d (omega (arith, less))

-- the drum with a loader keyed in
abbrev pub with_words : List ℕ → List ℕ → List ℕ
with_words drum words = words_from drum loader_base words

pub length_from : (words drum : List ℕ) (base : ℕ) → length (words_from drum base words) ≡ length drum
length_from [] drum base = refl
length_from (word ∷ words) drum base = length_from words (slice_set drum base word) (base + 1) ∙ length-set drum base word

-- the panel after words have been keyed in
switches_after : (words : List ℕ) (panel : Panel) (base : ℕ) → (panel_after_words panel base words).switches ≡ record panel.switches { six_bit = false }
switches_after [] panel base = refl
switches_after (word ∷ words) panel base = switches_after words (panel_after_store panel base word) (base + 1)

rests_after : (words : List ℕ) (panel : Panel) (base : ℕ) → is_at_rest panel.status ≡ true → is_at_rest (panel_after_words panel base words).status ≡ true
rests_after [] panel base rests = rests
rests_after (word ∷ words) panel base rests = rests_after words (panel_after_store panel base word) (base + 1) refl

-- with a loader keyed in the machine is at rest
pub keyed_rests : (s : State) (words : List ℕ) → IsLoader words → is_at_rest (keyed s loader_base words).core.panel.status ≡ true
keyed_rests s [] (all, some, fits) = absurd (let wrong : ⊥ = omega (arith, some) in wrong)
keyed_rests s (word ∷ words) (all, some, fits) =
    grind (arith, keyed_are, rests_after)

pub keyed_up : (s : State) (words : List ℕ) → IsLoader words → (keyed s loader_base words).core.panel.switches.six_bit ≡ false
keyed_up s words (all, some, fits) =
    ap (λ (t : State). t.core.panel.switches.six_bit) (keyed_are s _ _ all fits)
    ∙ ap (λ (switches : Switches). switches.six_bit) (switches_after words s.core.panel loader_base)

-- the state in which a loader begins
abbrev pub first_core : State → TapeLoad → Core
first_core s load =
    core_at s.core.panel.switches loader_base (jump_order loader_base) (jump_order loader_base) (with_words s.core.words load.loader) (off [] load.codes)

begun_is : (s : State) (load : TapeLoad) → IsLoader load.loader
    → begun s load ≡ record { core = first_core s load; printed = s.printed; clock = (begun s load).clock }
begun_is s load (all, some, fits) =
    let keyed_s = keyed_are s _ _ all fits in
    let clock = (keyed s loader_base load.loader).clock in
    let there = after_mount (state_after_words s loader_base load.loader clock) load.codes in
    let prepared_is : prepared s load ≡ there = ap (λ t. after_mount t load.codes) keyed_s in
    let switches = switches_after load.loader s.core.panel loader_base in
    let by_hand = started_by_hand there _ (ap (λ (switches : Switches). switches.six_bit) switches) (omega arith) in
    let begun_there : begun s load ≡ started there loader_base = ap (λ t. started t loader_base) prepared_is in
    let time : (next (about_to_jump there loader_base)).clock ≡ (begun s load).clock = ap (λ (t : State). t.clock) (sym by_hand) ∙ ap (λ (t : State). t.clock) (sym begun_there) in
    begun_there ∙ (by_hand ∙ (ap (λ n. state_when_started there loader_base n) time
    ∙ ap (λ switches. record {
      core = core_of (record (started_panel s.core.panel loader_base) { switches = switches }) (with_words s.core.words load.loader) (off [] load.codes);
      printed = s.printed;
      clock = (begun s load).clock;
    }) switches))

pub runs_when_begun : (s : State) (load : TapeLoad) (last : Core) → IsLoader load.loader → Runs load.orders (first_core s load) last → Runs load.orders (begun s load).core last
runs_when_begun s load last is runs = grind (arith, begun_is)

pub left_by_run : (s : State) (load : TapeLoad) (last : Core) → IsLoader load.loader → Runs load.orders (begun s load).core last
    → loaded s load ≡ record { core = last; printed = s.printed; clock = (loaded s load).clock }
left_by_run s load last is runs =
    let printed : (begun s load).printed ≡ s.printed = ap (λ (t : State). t.printed) (begun_is s load is) in
    state_after_run _ _ _ runs
    ∙ ap (λ printed. record { core = last; printed = printed; clock = (loaded s load).clock }) printed

pub calm_in_run : (s : State) (load : TapeLoad) (last : Core) → Runs load.orders (begun s load).core last
    → (before : ℕ) → before < load.orders → IsCalm (after (begun s load) before).core
calm_in_run s load last runs before less = calm_at _ _ _ runs _ less

pub undisturbed_run : (s : State) (load : TapeLoad) (last : Core) (events : List Event) → Runs load.orders (begun s load).core last
    → list_all is_time_or_switch events ≡ true
    → count_by is_word_time events ≡ total_cost (begun s load) load.orders
    → (switches : Switches) × (after_events (at_boundary (begun s load)) events ≡ at_boundary (with_switches (loaded s load) switches))
undisturbed_run s load last events runs such times =
    switches_pressed _ _ events
    (λ before less. let calm = calm_in_run s _ _ runs _ less in calm.blind) such times

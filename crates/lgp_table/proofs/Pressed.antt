-- Word times with presses of BREAK POINT and TRANSFER CONTROL between them.
use Rattle.std.proofs.Common.{◌≡◌, ◌≢◌, ℕ, zero, suc, ◌+◌, ◌<◌, ◌==◌, Bool, true, false, cond, nat_lt, refl, sym, ap, ◌∙◌, subst, arith, List, [], ◌∷◌, ◌++◌, length, fold, ◌&&◌, ⊎_elim}
use Rattle.std.specs.List.{list_all, count_by}
use Rattle.std.proofs.lemmas.Bool.Decides.{nat_tests}
use Rattle.std.proofs.lemmas.Bool.{cases_Bool, cases_eq, cases_lt}
use Rattle.std.proofs.lemmas.List.Folds.{list_all-append}
use Rattle.std.proofs.lemmas.List.Sums.{sum_by-cons}
use Rattle.lgp_table.specs.State.{State}
use Rattle.lgp_table.specs.Activity.{cost, next}
use Rattle.lgp_table.specs.After.{after, total_cost}
use Rattle.lgp_table.specs.Console.{Console, console_after}
use Rattle.lgp_table.specs.Interleaving.{Configuration, after_actions, after_events, after_press, after_word_time, at_boundary, console_of, latch_limit, with_console}
use Rattle.lgp_table.specs.SwitchPresses.{is_time_or_switch, is_word_time, looks_at_switches, presses_switch, with_switches}
use Rattle.lgp_table.specs.declared.action.Action.{Action}
use Rattle.lgp_table.specs.declared.action.Action.TheVariants as actions
use Rattle.lgp_table.specs.declared.action.Event.{Event}
use Rattle.lgp_table.specs.declared.action.Event.TheVariants.{WordTime, Press}
use Rattle.lgp_table.specs.declared.panel.Switches.{Switches}
use Rattle.lgp_table.specs.declared.panel.Which.TheVariants.{B32, B16, B8, B4}
use Rattle.lgp_table.specs.Console.{with_break_point}
use Rattle.lgp_table.proofs.After.{after_first, after_none, clock_after, clock_past_first}
use Rattle.lgp_table.proofs.Costs.{cost_more}
use Rattle.lgp_table.proofs.Unseen.{cost_same, next_same}

-- the switches after a press of one of them
switches_after : Switches → Action → Switches
switches_after switches (actions.BreakPoint which down) = with_break_point switches which down
switches_after switches (actions.Transfer down) = record switches { transfer = down }
switches_after switches _ = switches

console_pressed : (s : State) (switches : Switches) (action : Action) → presses_switch action ≡ true
    → console_after (console_of (with_switches s switches)) action ≡ console_of (with_switches s (switches_after switches action))
unfolding switches_after
console_pressed s switches (actions.BreakPoint B32 down) is = refl
console_pressed s switches (actions.BreakPoint B16 down) is = refl
console_pressed s switches (actions.BreakPoint B8 down) is = refl
console_pressed s switches (actions.BreakPoint B4 down) is = refl
console_pressed s switches (actions.Transfer down) is = refl
console_pressed s switches (actions.Mode mode) is = cc
console_pressed s switches actions.Start is = cc
console_pressed s switches actions.ClearCounter is = cc
console_pressed s switches actions.Fill is = cc
console_pressed s switches actions.Execute is = cc
console_pressed s switches (actions.Key code) is = cc
console_pressed s switches actions.StartCompute is = cc
console_pressed s switches actions.StartRead is = cc
console_pressed s switches (actions.SixBit down) is = cc

both : (a b : Bool) → (a && b) ≡ true → (a ≡ true) × (b ≡ true)
both true b e = (refl, e)
both false b e = cc

console_pressed_all : (s : State) (switches : Switches) (kept : List Action) → list_all presses_switch kept ≡ true
    → fold console_after (console_of (with_switches s switches)) kept ≡ console_of (with_switches s (fold switches_after switches kept))
console_pressed_all s switches [] all = refl
console_pressed_all s switches (action ∷ kept) all =
    let (first, others) = both (presses_switch action) (list_all presses_switch kept) all in
    ap (λ (console : Console). fold console_after console kept) (console_pressed s _ _ first)
    ∙ console_pressed_all s (switches_after switches action) kept others

-- where the events end at a boundary in this state, but for those switches
abbrev EndsAs : Configuration → List Event → State → Type 0
EndsAs now events last = (switches : Switches) × (after_events now events ≡ at_boundary (with_switches last switches))

moved : (now other : Configuration) (events : List Event) (last : State) → now ≡ other → EndsAs other events last → EndsAs now events last
moved now other events last same (switches, ends) = (switches, ap (λ c. after_events c events) same ∙ ends)

-- within the activity that began in s, but for those switches
abbrev amid : State → Switches → ℕ → List Action → Configuration
amid s switches elapsed kept = record { state = with_switches s switches; elapsed = elapsed; kept = kept }

time_within : (s : State) (switches : Switches) (elapsed : ℕ) (kept : List Action) → elapsed + 1 < cost s
    → after_word_time (amid s switches elapsed kept) ≡ amid s switches (elapsed + 1) kept
time_within s switches elapsed kept less =
    grind (arith, cost_same)

time_last : (s : State) (switches : Switches) (elapsed : ℕ) (kept : List Action) → looks_at_switches s ≡ false → elapsed + 1 ≡ cost s
    → list_all presses_switch kept ≡ true
    → after_word_time (amid s switches elapsed kept) ≡ amid (next s) (fold switches_after switches kept) 0 []
time_last s switches elapsed kept blind last all =
    let same = cost_same s switches in
    let test : nat_lt (elapsed + 1) (cost (with_switches s switches)) ≡ false = grind (arith, nat_tests) in
    let console = console_pressed_all (next s) switches kept all in
    let state = next_same s switches blind in
    let acted : after_actions (next (with_switches s switches)) kept ≡ with_switches (next s) (fold switches_after switches kept) =
    ap (λ t. after_actions t kept) state ∙ ap (λ (console : Console). with_console (with_switches (next s) switches) console) console in
    rw test (ap at_boundary acted)

press_at_boundary : (s : State) (switches : Switches) (action : Action) → presses_switch action ≡ true
    → after_press (amid s switches 0 []) action ≡ amid s (switches_after switches action) 0 []
press_at_boundary s switches action is = grind (arith, console_pressed)

press_kept : (s : State) (switches : Switches) (elapsed : ℕ) (kept : List Action) (action : Action) → elapsed ≢ 0 → nat_lt (length kept) latch_limit ≡ true
    → after_press (amid s switches elapsed kept) action ≡ amid s switches elapsed (kept ++ action ∷ [])
press_kept s switches elapsed kept action within room =
    let test : (elapsed == 0) ≡ false = grind (arith, nat_tests) in
    rw (test, room) refl

press_lost : (s : State) (switches : Switches) (elapsed : ℕ) (kept : List Action) (action : Action) → elapsed ≢ 0 → nat_lt (length kept) latch_limit ≡ false
    → after_press (amid s switches elapsed kept) action ≡ amid s switches elapsed kept
press_lost s switches elapsed kept action within full =
    let test : (elapsed == 0) ≡ false = grind (arith, nat_tests) in
    rw (test, full) refl

kept_more : (kept : List Action) (action : Action) → list_all presses_switch kept ≡ true → presses_switch action ≡ true
    → list_all presses_switch (kept ++ action ∷ []) ≡ true
kept_more kept action all is = rw (list_all-append _ _ (action ∷ []), all, is) refl

-- what holds on the way: the events to come are such, a given number of their word times is left, and none of the activities left looks
record IsOnTheWay (s : State) (count : ℕ) (elapsed : ℕ) (kept : List Action) (events : List Event) : Type 0 where
  such : list_all is_time_or_switch events ≡ true
  switches_kept : list_all presses_switch kept ≡ true
  within : elapsed < cost s
  none_kept : elapsed ≡ 0 → kept ≡ []
  times : s.clock + (elapsed + count_by is_word_time events) ≡ (after s count).clock
  blind : (before : ℕ) → before < count → looks_at_switches (after s before) ≡ false

-- the ways on from an event to the ones after it
abbrev Onward : List Event → Type 0
Onward events = (s : State) (count elapsed : ℕ) (kept : List Action) (switches : Switches) → IsOnTheWay s count elapsed kept events
    → EndsAs (amid s switches elapsed kept) events (after s count)

no_time_left : (s : State) (count elapsed : ℕ) (kept : List Action) (switches : Switches) → IsOnTheWay s count elapsed kept []
    → EndsAs (amid s switches elapsed kept) [] (after s count)
no_time_left s zero elapsed kept switches way =
    grind (arith, after_none)
no_time_left s (suc count) elapsed kept switches way =
    grind (arith, clock_past_first)

one_more_time : (rest : List Event) → count_by is_word_time (WordTime ∷ rest) ≡ 1 + count_by is_word_time rest
one_more_time rest = sum_by-cons _ WordTime rest

no_more_time : (action : Action) (rest : List Event) → count_by is_word_time (Press action ∷ rest) ≡ count_by is_word_time rest
no_more_time action rest = sum_by-cons (λ event. cond (is_word_time event) 1 0) (Press action) rest ∙ omega arith

-- the way after a word time that does not end the activity
way_within : (s : State) (count elapsed : ℕ) (kept : List Action) (rest : List Event) → IsOnTheWay s count elapsed kept (WordTime ∷ rest)
    → elapsed + 1 < cost s → IsOnTheWay s count (elapsed + 1) kept rest
way_within s count elapsed kept rest way less = record {
  such = way.such;
  switches_kept = way.switches_kept;
  within = less;
  none_kept = λ none. absurd (let wrong : ⊥ = omega (arith, none) in wrong);
  times = let more = one_more_time rest in omega (arith, more, way.times);
  blind = way.blind;
}

-- the way after the last word time of an activity
way_next : (s : State) (count elapsed : ℕ) (kept : List Action) (rest : List Event) → IsOnTheWay s (suc count) elapsed kept (WordTime ∷ rest)
    → elapsed + 1 ≡ cost s → IsOnTheWay (next s) count 0 [] rest
way_next s count elapsed kept rest way last = record {
  such = way.such;
  switches_kept = refl;
  within = let some = cost_more (next s) in omega (arith, some);
  none_kept = λ none. refl;
  times =
      let more = one_more_time rest in
      let clocks : (after s (suc count)).clock ≡ (after (next s) count).clock = ap (λ (t : State). t.clock) (after_first s count) in
      omega (arith, more, way.times, clocks, last);
  blind = λ before less. rw (sym (after_first s before)) (way.blind (suc before) (omega (arith, less)));
}

first_blind : (s : State) (count elapsed : ℕ) (kept : List Action) (events : List Event) → IsOnTheWay s (suc count) elapsed kept events
    → looks_at_switches s ≡ false
first_blind s count elapsed kept events way = ap looks_at_switches (sym (after_none s)) ∙ way.blind 0 (omega arith)

time_passes : (rest : List Event) → Onward rest → Onward (WordTime ∷ rest)
time_passes rest onward s zero elapsed kept switches way =
    let clocks : (after s 0).clock ≡ s.clock = ap (λ (t : State). t.clock) (after_none s) in
    let more = one_more_time rest in
    let wrong : ⊥ = omega (arith, way.times, clocks, more) in
    absurd wrong
time_passes rest onward s (suc count) elapsed kept switches way =
    ⊎_elim
    (λ less. moved (after_word_time (amid s switches elapsed kept)) (amid s switches (elapsed + 1) kept) rest (after s (suc count))
    (time_within s switches _ _ less)
    (onward s (suc count) (elapsed + 1) kept switches (way_within s _ _ _ _ way less)))
    (λ whole.
    let last : elapsed + 1 ≡ cost s = omega (arith, whole, way.within) in
    let blind = first_blind s _ _ _ _ way in
    let pressed = fold switches_after switches kept in
    let ends = onward (next s) count 0 [] pressed (way_next s _ _ _ _ way last) in
    moved (after_word_time (amid s switches elapsed kept)) (amid (next s) pressed 0 []) rest (after s (suc count))
    (time_last s _ _ _ blind last way.switches_kept)
    (subst (λ last. EndsAs (amid (next s) pressed 0 []) rest last) (sym (after_first s _)) ends))
    (cases_lt (elapsed + 1) (cost s))

-- the way after a press, with other actions kept
way_pressed : (s : State) (count elapsed : ℕ) (kept others : List Action) (action : Action) (rest : List Event)
    → IsOnTheWay s count elapsed kept (Press action ∷ rest) → list_all presses_switch others ≡ true → (elapsed ≡ 0 → others ≡ [])
    → IsOnTheWay s count elapsed others rest
way_pressed s count elapsed kept others action rest way all none =
    let (first, such) = both (presses_switch action) (list_all is_time_or_switch rest) way.such in
    record {
      such = such;
      switches_kept = all;
      within = way.within;
      none_kept = none;
      times = let more = no_more_time action rest in omega (arith, more, way.times);
      blind = way.blind;
    }

press_of : (action : Action) (rest : List Event) → list_all is_time_or_switch (Press action ∷ rest) ≡ true → presses_switch action ≡ true
press_of action rest such = let (first, others) = both (presses_switch action) (list_all is_time_or_switch rest) such in first

switch_pressed : (action : Action) (rest : List Event) → Onward rest → Onward (Press action ∷ rest)
switch_pressed action rest onward s count elapsed kept switches way =
    let is = press_of _ rest way.such in
    let now = after_press (amid s switches elapsed kept) action in
    ⊎_elim
    (λ none.
    let at : now ≡ amid s (switches_after switches action) 0 [] = rw none (press_at_boundary s _ _ is) in
    let on = subst (λ n. IsOnTheWay s count n [] rest) none (way_pressed s _ _ _ [] _ _ way refl (λ e. refl)) in
    moved now (amid s (switches_after switches action) 0 []) rest (after s count) at (onward s count 0 [] (switches_after switches action) on))
    (λ within. ⊎_elim
    (λ room. moved now (amid s switches elapsed (kept ++ action ∷ [])) rest (after s count) (press_kept s switches _ _ _ within room)
    (onward s count elapsed (kept ++ action ∷ []) switches
    (way_pressed s _ _ _ _ _ _ way (kept_more kept action way.switches_kept is) (λ e. absurd (within e)))))
    (λ full. moved now (amid s switches elapsed kept) rest (after s count) (press_lost s switches _ _ action within full)
    (onward s count elapsed kept switches (way_pressed s _ _ _ _ _ _ way way.switches_kept way.none_kept)))
    (cases_Bool (nat_lt (length kept) latch_limit)))
    (cases_eq elapsed 0)

onward_from : (events : List Event) → Onward events
onward_from [] s count elapsed kept switches way = no_time_left s _ _ _ switches way
onward_from (WordTime ∷ rest) s count elapsed kept switches way = time_passes _ (onward_from _) s count elapsed kept switches way
onward_from (Press action ∷ rest) s count elapsed kept switches way = switch_pressed _ _ (onward_from _) s count elapsed kept switches way

pub switches_pressed : (s : State) (count : ℕ) (events : List Event)
    → ((before : ℕ) → before < count → looks_at_switches (after s before) ≡ false)
    → list_all is_time_or_switch events ≡ true
    → count_by is_word_time events ≡ total_cost s count
    → (switches : Switches) × (after_events (at_boundary s) events ≡ at_boundary (with_switches (after s count) switches))
switches_pressed s count events blind such times =
    let way : IsOnTheWay s count 0 [] events = record {
      such = such;
      switches_kept = refl;
      within = let some = cost_more s in omega (arith, some);
      none_kept = λ none. refl;
      times = let clock = clock_after s count in omega (arith, clock, times);
      blind = blind;
    } in
    onward_from _ s count 0 [] s.core.panel.switches way

-- Orders of a session that are looked at one after another, and what is found among them.
use Rattle.std.proofs.Common.{◌≡◌, ℕ, zero, suc, ◌+◌, ◌-◌, ◌<◌, Bool, true, false, IfSome, Option, Some, None, List, [], ◌∷◌, length, nat_lt, refl, ap, arith, sym, subst, ◌∙◌}
use Rattle.std.proofs.lemmas.Bool.Decides.{nat_tests}
use Rattle.std.specs.Str.Lines.{lines}
use Rattle.lgp_table.specs.State.{State}
use Rattle.lgp_table.specs.After.{after}
use Rattle.lgp_debugger.specs.Debugging.{Debugging, performed}
use Rattle.lgp_debugger.specs.Run.{orders_of, run_of}
use Rattle.lgp_debugger.specs.Watching.{AreSeen, rules_in_force}
use Rattle.lgp_debugger.proofs.PerformedLemmas.{performed_state}
use Rattle.lgp_stream.specs.KeptLine.{IsFirstLine, Kept, kept_of}
use Rattle.lgp_stream.specs.Transcript.{Recorded, after_lines, stand_in, with_state}
use Rattle.lgp_script.specs.LabState.{LabState}
use Rattle.lgp_script.specs.RunPart.{IsWatched, orders_of_run}
use Rattle.lgp_script.specs.Script.{script_language}
use Rattle.lgp_when.specs.When.{meets}
use Rattle.lgp_when.specs.declared.condition.Condition.{Condition}
use Rattle.lgp_moment.specs.Moment.{after_kept, all_orders, command_in, orders_in, state_at}
use Rattle.lgp_moment.specs.MomentInside.{run_command}
use Rattle.lgp_moment.specs.Search.{IsSought, chosen, sought}
use Rattle.lgp_moment.specs.SearchInside.{AreLookedAt, IsSameSearch, IsSearchedLine, IsSearching, IsSeen, sought_on}
use Rattle.lgp_moment.specs.declared.search.Search.{Search}
use Rattle.lgp_moment.specs.declared.search.Which.{Which}
use Rattle.lgp_moment.specs.declared.search.Which.TheVariants.{First, Last}
use Rattle.lgp_moment.proofs.MomentLemmas.{all_more, none_left, orders_there, run_line}

-- ---- what is found

-- the same test finds the same
alike : (which : Which) (done : ℕ) (found : Option ℕ) (p q : ℕ → Bool) (count : ℕ) → ((k : ℕ) → k < count → p k ≡ q k) → sought_on which done found p count ≡ sought_on which done found q count
unfolding sought_on
alike which done found p q zero same = refl
alike which done found p q (suc count) same =
    let rest : sought_on which done found p count ≡ sought_on which done found q count = alike which done found p q count (λ k few. same k (omega arith)) in
    ap (λ (b : Bool). chosen which b (done + count) (sought_on which done found p count)) (same count (omega arith))
    ∙ ap (λ (f : Option ℕ). chosen which (q count) (done + count) f) rest

-- on from what was found among the orders before
all_found : (which : Which) (done : ℕ) (passes : ℕ → Bool) (count : ℕ) → sought_on which done (sought which passes done) (λ k. passes (done + k)) count ≡ sought which passes (done + count)
unfolding sought_on sought
all_found which done passes zero = let same : done + 0 ≡ done = omega arith in ap (λ (n : ℕ). sought which passes n) (sym same)
all_found which done passes (suc count) =
    let same : done + suc count ≡ suc (done + count) = omega arith in
    ap (λ (f : Option ℕ). chosen which (passes (done + count)) (done + count) f) (all_found which done passes count)
    ∙ ap (λ (n : ℕ). sought which passes n) (sym same)

-- ---- orders that are looked at

none_looked_at : (s : State) (search : Search) → AreLookedAt s 0 search search
unfolding sought_on
none_looked_at s search = record {
  same = record { which = refl; condition = refl };
  orders = omega arith;
  found = refl;
}

abbrev pub sees : Debugging → Search → Search → Type 0
sees d before after = IsSeen d.state before after

more_found : (which : Which) (done : ℕ) (found : Option ℕ) (passes : ℕ → Bool) (count : ℕ) → chosen which (passes count) (done + count) (sought_on which done found passes count) ≡ sought_on which done found passes (suc count)
unfolding sought_on
more_found which done found passes count = refl

looked_at_more : (s now : State) (count : ℕ) (old before new : Search) → now ≡ after s count → AreLookedAt s count old before → IsSeen now before new → AreLookedAt s (suc count) old new
looked_at_more s now count old before new there few last =
    let passes = λ (k : ℕ). meets (after s k) old.meeting.condition in
    let test : meets now before.meeting.condition ≡ passes count =
    ap (λ (t : State). meets t before.meeting.condition) there ∙ ap (λ (c : Condition). meets (after s count) c) few.same.condition in
    record {
      same = record { which = last.same.which ∙ few.same.which; condition = last.same.condition ∙ few.same.condition };
      orders = let a = last.orders in let b = few.orders in omega (arith, a, b);
      found = last.found
          ∙ (ap (λ (which : Which). chosen which (meets now before.meeting.condition) before.orders before.found) few.same.which
          ∙ (ap (λ (b : Bool). chosen old.which b before.orders before.found) test
          ∙ (ap (λ (n : ℕ). chosen old.which (passes count) n before.found) few.orders
          ∙ (ap (λ (f : Option ℕ). chosen old.which (passes count) (old.orders + count) f) few.found
          ∙ more_found old.which old.orders old.found passes count))));
    }

looked_at : (d : Debugging) (old new : Search) (count : ℕ) → AreSeen sees d old count new → AreLookedAt d.state count old new
unfolding AreSeen
looked_at d old new zero seen = subst (λ (search : Search). AreLookedAt d.state 0 old search) (sym seen) (none_looked_at d.state old)
looked_at d old new (suc count) seen =
    looked_at_more d.state (performed d count).state count old seen.0 new (performed_state d count) (looked_at d old seen.0 count seen.1) seen.2

-- what was to be seen before the first order is of no account
of_search : (s : State) (count : ℕ) (first old new : Search) → IsSameSearch first old → old.orders ≡ first.orders → old.found ≡ first.found → AreLookedAt s count old new → AreLookedAt s count first new
of_search s count first old new same orders found looked = record {
  same = record { which = looked.same.which ∙ same.which; condition = looked.same.condition ∙ same.condition };
  orders = let a = looked.orders in omega (arith, a, orders);
  found = looked.found
      ∙ (ap (λ (w : Which). sought_on w old.orders old.found (λ k. meets (after s k) old.meeting.condition) count) same.which
      ∙ (ap (λ (n : ℕ). sought_on first.which n old.found (λ k. meets (after s k) old.meeting.condition) count) orders
      ∙ (ap (λ (f : Option ℕ). sought_on first.which first.orders f (λ k. meets (after s k) old.meeting.condition) count) found
      ∙ ap (λ (c : Condition). sought_on first.which first.orders first.found (λ k. meets (after s k) c) count) same.condition)));
}

-- ---- a line that asks for a run

orders_are : (lab : LabState) (by_rules : Bool) (limit orders : ℕ) → orders ≡ orders_of (run_of (rules_in_force by_rules lab.debugger.rules) limit lab.debugger.state) → orders ≡ orders_of_run by_rules limit lab
unfolding orders_of_run
orders_are lab by_rules limit orders is = is

module _ (r₀ r₁ : Recorded LabState) (text : List ℕ) (by_rules : Bool) (limit most orders : ℕ) (first old new : Search) (lab s : LabState) where
  pub run_searched : command_in r₀.state (kept_of text) ≡ Some (run_command by_rules limit) → most ≡ limit → lab ≡ r₀.state
      → IsWatched (rules_in_force by_rules lab.debugger.rules) most lab s orders (AreSeen sees lab.debugger old orders new)
      → r₁ ≡ with_state r₀ s → IsSameSearch first old → old.orders ≡ first.orders → old.found ≡ first.found
      → IsSearchedLine r₀.state (kept_of text) r₁.state first new
  run_searched command few lent done stands same counted found =
      let P = λ (t : LabState) (n : ℕ). IsWatched (rules_in_force by_rules t.debugger.rules) n t s orders (AreSeen sees t.debugger old orders new) in
      let here : P r₀.state limit = subst (λ (n : ℕ). P r₀.state n) few (subst (λ (t : LabState). P t most) lent done) in
      let all : orders ≡ orders_of_run by_rules limit r₀.state = orders_are r₀.state by_rules limit orders here.performs in
      let count : orders ≡ orders_in r₀.state (kept_of text) = all ∙ sym (orders_there r₀.state (kept_of text) by_rules limit command) in
      record {
        state = ap (λ (r : Recorded LabState). r.state) stands
            ∙ (here.after
            ∙ (ap (λ (n : ℕ). record r₀.state { debugger = performed r₀.state.debugger n }) all
            ∙ sym (run_line r₀.state (kept_of text) text by_rules limit refl command)));
        looks = subst (λ (n : ℕ). AreLookedAt r₀.state.debugger.state n first new) count
            (of_search r₀.state.debugger.state orders first old new same counted found (looked_at r₀.state.debugger old new orders here.seen));
      }

-- any other line
pub line_searched : (r₀ r₁ : Recorded LabState) (kept : Kept) (search : Search) → orders_in r₀.state kept ≡ 0 → r₁ ≡ after_lines script_language r₀ (stand_in kept ∷ [])
    → IsSearchedLine r₀.state kept r₁.state search search
unfolding after_lines
line_searched r₀ r₁ kept search none after = record {
  state = ap (λ (r : Recorded LabState). r.state) after;
  looks = subst (λ (n : ℕ). AreLookedAt r₀.state.debugger.state n search search) (sym none) (none_looked_at r₀.state.debugger.state search);
}

-- ---- lines one after another

state_within : (lab : LabState) (line : List ℕ) (later : List (List ℕ)) (k : ℕ) → k < orders_in lab (kept_of line) → state_at lab (line ∷ later) k ≡ after lab.debugger.state k
unfolding state_at
state_within lab line later k few = let test : nat_lt k (orders_in lab (kept_of line)) ≡ true = grind (arith, nat_tests) in rw test refl

state_later : (lab : LabState) (line : List ℕ) (later : List (List ℕ)) (k : ℕ) → state_at lab (line ∷ later) (orders_in lab (kept_of line) + k) ≡ state_at (after_kept lab (kept_of line)) later k
unfolding state_at
state_later lab line later k =
    let n = orders_in lab (kept_of line) in
    let test : nat_lt (n + k) n ≡ false = grind (arith, nat_tests) in
    let less : (n + k) - n ≡ k = omega arith in
    rw test (ap (λ (m : ℕ). state_at (after_kept lab (kept_of line)) later m) less)

pub searching_on : (first r₀ r₁ : LabState) (all : List (List ℕ)) (condition : Condition) (text : List ℕ) (kept : Kept) (rest : List ℕ) (old new : Search) → IsFirstLine text kept rest
    → IsSearchedLine r₀ kept r₁ old new → IsSearching first all condition r₀ (lines text) old → IsSearching first all condition r₁ (lines rest) new
searching_on first r₀ r₁ all condition text kept rest old new line done way =
    let of_first : IsSearchedLine r₀ (kept_of line.first) r₁ old new = subst (λ (k : Kept). IsSearchedLine r₀ k r₁ old new) line.is_kept done in
    let count = orders_in r₀ (kept_of line.first) in
    let passes = λ (n : ℕ). meets (state_at first all n) condition in
    let more : new.orders ≡ old.orders + count = of_first.looks.orders in
    let text_state : (k : ℕ) → state_at first all (old.orders + k) ≡ state_at r₀ (line.first ∷ lines rest) k =
    λ k. way.states k ∙ ap (λ (ls : List (List ℕ)). state_at r₀ ls k) line.lines_are in
    record {
      sought_for = of_first.looks.same.condition ∙ way.sought_for;
      states = λ k.
          let sum : new.orders + k ≡ old.orders + (count + k) = omega (arith, more) in
          ap (λ (n : ℕ). state_at first all n) sum
          ∙ (text_state (count + k)
          ∙ (state_later r₀ line.first (lines rest) k
          ∙ ap (λ (lab : LabState). state_at lab (lines rest) k) (sym of_first.state)));
      orders =
          let sum : all_orders r₀ (lines text) ≡ count + all_orders (after_kept r₀ (kept_of line.first)) (lines rest) = ap (all_orders r₀) line.lines_are ∙ all_more r₀ line.first (lines rest) in
          let here : all_orders r₁ (lines rest) ≡ all_orders (after_kept r₀ (kept_of line.first)) (lines rest) = ap (λ (lab : LabState). all_orders lab (lines rest)) of_first.state in
          let there = way.orders in
          omega (arith, more, sum, here, there);
      found =
          let same : (k : ℕ) → k < count → meets (after r₀.debugger.state k) old.meeting.condition ≡ passes (old.orders + k) =
          λ k few. ap (λ (c : Condition). meets (after r₀.debugger.state k) c) way.sought_for
          ∙ ap (λ (s : State). meets s condition) (sym (text_state k ∙ state_within r₀ line.first (lines rest) k few)) in
          of_first.looks.found
          ∙ (alike old.which old.orders old.found (λ k. meets (after r₀.debugger.state k) old.meeting.condition) (λ k. passes (old.orders + k)) count same
          ∙ (ap (λ (f : Option ℕ). sought_on old.which old.orders f (λ k. passes (old.orders + k)) count) way.found
          ∙ (all_found old.which old.orders passes count
          ∙ (ap (λ (n : ℕ). sought old.which passes n) (sym more)
          ∙ ap (λ (w : Which). sought w passes new.orders) (sym of_first.looks.same.which)))));
    }

pub search_begun : (lab : LabState) (all : List (List ℕ)) (condition : Condition) (search : Search) → search.meeting.condition ≡ condition → search.orders ≡ 0 → search.found ≡ None → IsSearching lab all condition lab all search
unfolding sought
search_begun lab all condition search is none nothing = record {
  sought_for = is;
  states = λ k. let same : search.orders + k ≡ k = omega (arith, none) in ap (λ (n : ℕ). state_at lab all n) same;
  orders = omega (arith, none);
  found = nothing ∙ ap (λ (n : ℕ). sought search.which (λ order. meets (state_at lab all order) condition) n) (sym none);
}

some_is : {T : Type 0} {a b : T} → Some a ≡ Some b → a ≡ b
some_is e = cc

-- what is found is one of the orders
chosen_below : (which : Which) (passes : Bool) (count : ℕ) (found : Option ℕ) (order : ℕ) → chosen which passes count found ≡ Some order → ((earlier : ℕ) → found ≡ Some earlier → earlier < count)
    → order < suc count
chosen_below First passes count (Some earlier) order is less =
    let same : earlier ≡ order = some_is is in
    let here : earlier < count = less earlier refl in
    omega (arith, same, here)
chosen_below First true count None order is less = let same : count ≡ order = some_is is in omega (arith, same)
chosen_below First false count None order is less = cc
chosen_below Last true count found order is less = let same : count ≡ order = some_is is in omega (arith, same)
chosen_below Last false count found order is less = let here : order < count = less order is in omega (arith, here)

below : (which : Which) (passes : ℕ → Bool) (count order : ℕ) → sought which passes count ≡ Some order → order < count
unfolding sought
below which passes zero order is = cc
below which passes (suc count) order is = chosen_below which (passes count) count (sought which passes count) order is (λ earlier found. below which passes count earlier found)

found_below : (which : Which) (passes : ℕ → Bool) (count : ℕ) (found : Option ℕ) → found ≡ sought which passes count → IfSome found (λ order. order < count)
found_below which passes count None is = tt
found_below which passes count (Some order) is = below which passes count order (sym is)

pub search_ended : (first now : LabState) (all : List (List ℕ)) (condition : Condition) (which : Which) (text : List ℕ) (search : Search) → length text ≡ 0 → search.which ≡ which
    → IsSearching first all condition now (lines text) search → IsSought which condition first all (record { order = search.found; orders = search.orders })
search_ended first now all condition which text search none is way =
    let passes = λ (n : ℕ). meets (state_at first all n) condition in
    let few : all_orders now (lines text) ≡ 0 = none_left now text none in
    let sum : search.orders ≡ all_orders first all = let there = way.orders in omega (arith, few, there) in
    record {
      order = way.found ∙ (ap (λ (n : ℕ). sought search.which passes n) sum ∙ ap (λ (w : Which). sought w passes (all_orders first all)) is);
      orders = sum;
      within = found_below search.which passes search.orders search.found way.found;
    }

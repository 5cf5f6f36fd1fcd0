-- What the watchers of runs keep.
use Rattle.std.proofs.Common.{◌≡◌, ◌∙◌, ℕ, zero, suc, ◌++◌, List, Option, append_assoc, sym, ap}
use Rattle.std.proofs.lemmas.List.{append-nil}
use Rattle.lgp_table.specs.State.{State}
use Rattle.lgp_debugger.specs.Debugging.{Debugging, order_origin, order_origins, performed}
use Rattle.lgp_debugger.specs.Watching.{AreSeen}
use Rattle.lgp_debugger.proofs.PerformedLemmas.{performed_state}
use Rattle.lgp_trace.specs.Account.{account_of, place_of}
use Rattle.lgp_trace.specs.DrumRows.{signs_in_rows, signs_of}
use Rattle.lgp_trace.specs.Phases.{phases_of}
use Rattle.lgp_trace.specs.Profile.{Profiled, empty_profile, profile_of, with_activity}
use Rattle.lgp_trace.specs.Runs.{drawn, reported}
use Rattle.lgp_trace.specs.declared.account.Account.{Account}
use Rattle.lgp_history.specs.declared.origin.Origin.{Origin}

-- the lines of an order, drawn and reported
abbrev order_reported : (Account → Option Origin → List ℕ) → Debugging → List ℕ
order_reported told d = told (account_of d.state) (order_origin d)

abbrev order_drawn : State → List ℕ
order_drawn s = signs_in_rows s.clock (signs_of (account_of s))

pub seen_reported : (told : Account → Option Origin → List ℕ) (Text : Type 0) (items : Text → List ℕ) (d : Debugging) (first text : Text) (count : ℕ)
    → AreSeen (λ (d : Debugging) (before after : Text). items after ≡ items before ++ told (account_of d.state) (order_origin d)) d first count text
    → items text ≡ items first ++ reported told d.state (order_origins d) count
unfolding AreSeen reported order_origins
seen_reported told Text items d first text zero is = ap items is ∙ sym (append-nil (items first))
seen_reported told Text items d first text (suc count) (before, so_far, seen) =
    seen
    ∙ ap (λ (t : List ℕ). t ++ order_reported told (performed d count)) (seen_reported told Text items d first before count so_far)
    ∙ append_assoc (items first) (reported told d.state (order_origins d) count) (order_reported told (performed d count))
    ∙ ap (λ (s : State). items first ++ (reported told d.state (order_origins d) count ++ told (account_of s) (order_origin (performed d count)))) (performed_state d count)

pub seen_drawn : (Text : Type 0) (items : Text → List ℕ) (d : Debugging) (first text : Text) (count : ℕ)
    → AreSeen (λ (d : Debugging) (before after : Text). items after ≡ items before ++ signs_in_rows d.state.clock (signs_of (account_of d.state))) d first count text
    → items text ≡ items first ++ drawn d.state count
unfolding AreSeen drawn
seen_drawn Text items d first text zero is = ap items is ∙ sym (append-nil (items first))
seen_drawn Text items d first text (suc count) (before, so_far, seen) =
    seen
    ∙ ap (λ (t : List ℕ). t ++ order_drawn (performed d count).state) (seen_drawn Text items d first before count so_far)
    ∙ append_assoc (items first) (drawn d.state count) (order_drawn (performed d count).state)
    ∙ ap (λ (s : State). items first ++ (drawn d.state count ++ order_drawn s)) (performed_state d count)

pub seen_profile : (Sums : Type 0) (view : Sums → Profiled) (d : Debugging) (first sums : Sums) (count : ℕ) → view first ≡ empty_profile
    → AreSeen (λ (d : Debugging) (before after : Sums). view after ≡ with_activity (view before) (place_of d.state) (phases_of d.state)) d first count sums
    → view sums ≡ profile_of d.state count
unfolding AreSeen profile_of
seen_profile Sums view d first sums zero none is = ap view is ∙ none
seen_profile Sums view d first sums (suc count) none (before, so_far, seen) =
    seen
    ∙ ap (λ (p : Profiled). with_activity p (place_of (performed d count).state) (phases_of (performed d count).state)) (seen_profile Sums view d first before count none so_far)
    ∙ ap (λ (s : State). with_activity (profile_of d.state count) (place_of s) (phases_of s)) (performed_state d count)

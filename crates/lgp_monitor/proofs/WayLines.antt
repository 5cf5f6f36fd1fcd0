-- A line that leads to the beginning of an order which was not there: nothing is changed.
use Rattle.std.proofs.Common.{◌≡◌, ◌∙◌, ◌<◌, ℕ, Some, None, true, cond, nat_lt, List, ◌++◌, ap, arith, sym}
use Rattle.std.proofs.lemmas.Bool.Decides.{nat_tests}
use Rattle.lgp_fields.specs.declared.records.RecordForm.{RecordForm}
use Rattle.lgp_stream.specs.Language.{IsAnswered}
use Rattle.lgp_stream.specs.Transcript.{Recorded}
use Rattle.lgp_stream.proofs.AfterLemmas.{after-none}
use Rattle.std.specs.Str.Lines.{lines}
use Rattle.lgp_script.specs.LabState.{LabState, opening_state}
use Rattle.lgp_script.specs.Script.{script_language}
use Rattle.lgp_when.specs.declared.condition.Condition.{Condition}
use Rattle.lgp_moment.specs.Search.{order_sought}
use Rattle.lgp_moment.specs.declared.search.Which.{Which}
use Rattle.lgp_monitor.specs.Moments.{not_yet_text}
use Rattle.lgp_monitor.specs.Monitor.{answer_at_order}
use Rattle.lgp_monitor.specs.Ways.{orders_there, unmet_text}
use Rattle.lgp_monitor.specs.declared.way.Way.TheVariants.{Order, Sought}

pub not_there : (r : Recorded LabState) (form : RecordForm) (order orders : ℕ) (before after : List ℕ) → orders ≡ orders_there r → orders < order → after ≡ before ++ not_yet_text orders
    → IsAnswered before after r (answer_at_order r (Order order) form (cond (nat_lt (orders_there r) order) None (Some order)))
not_there r form order orders before after all below said =
    let test : nat_lt (orders_there r) order ≡ true = by_less (orders_there r) all in
    rw test (record { reply = said ∙ ap (λ (n : ℕ). before ++ not_yet_text n) all; after = sym (after-none script_language r) }) where
      by_less : (n : ℕ) → orders ≡ n → nat_lt n order ≡ true
      by_less n is = let less : n < order = omega (arith, is, below) in grind (arith, nat_tests)

-- none was found that was sought
pub not_met : (r : Recorded LabState) (form : RecordForm) (which : Which) (condition : Condition) (orders : ℕ) (before after : List ℕ) → orders ≡ orders_there r
    → order_sought which condition opening_state (lines r.transcript) ≡ None → after ≡ before ++ unmet_text orders
    → IsAnswered before after r (answer_at_order r (Sought which condition) form (order_sought which condition opening_state (lines r.transcript)))
not_met r form which condition orders before after all none said =
    rw none (record { reply = said ∙ ap (λ (n : ℕ). before ++ unmet_text n) all; after = sym (after-none script_language r) })

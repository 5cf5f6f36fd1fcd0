-- A picture along the drum: its rows begun, the orders drawn, its rows ended.
use Rattle.std.proofs.Common.{◌≡◌, ◌∙◌, ◌++◌, ℕ, List, Option, ap, append_assoc}
use Rattle.std.proofs.Common.{Result, Ok, Err}
use Rattle.lgp_debugger.specs.Run.{UnlessMemory}
use Rattle.lgp_debugger.specs.declared.fault.Ran.{Ran}
use Rattle.lgp_debugger.specs.declared.fault.RunFault.{RunFault}
use Rattle.lgp_table.specs.After.{after}
use Rattle.lgp_table.specs.State.{State}
use Rattle.lgp_trace.specs.DrumRows.{rows_begun, rows_ended}
use Rattle.lgp_trace.specs.Runs.{drawn}
use Rattle.lgp_history.specs.declared.origin.Origin.{Origin}
use Rattle.lgp_monitor.specs.Telling.{reported_text}
use Rattle.lgp_monitor.specs.declared.telling.Telling.TheVariants as tellings

-- what follows of a run from two facts about it
pub both : (outcome : Result Ran RunFault) (P Q R : Type 0) → (P → Q → R) → UnlessMemory outcome P → Q → UnlessMemory outcome R
both (Ok ran) P Q R f p q = f p q
both (Err fault) P Q R f p q = λ e. f (p e) q

pub pictured_all : (names : List (List ℕ × ℕ)) (origins : ℕ → Option Origin) (first last : ℕ) (s now : State) (orders : ℕ) (text begun reported ended : List ℕ) → first ≡ s.clock → last ≡ now.clock → begun ≡ text ++ rows_begun first → reported ≡ begun ++ drawn s orders
    → now ≡ after s orders → ended ≡ reported ++ rows_ended last → ended ≡ text ++ reported_text tellings.Drum names s origins orders
unfolding reported_text
pictured_all names origins first last s now orders text begun reported ended at_first at_last is_begun is_reported is_now is_ended =
    is_ended ∙ (ap (λ (t : List ℕ). t ++ rows_ended last) (is_reported ∙ ap (λ (t : List ℕ). t ++ drawn s orders) is_begun)
    ∙ (append_assoc (text ++ rows_begun first) (drawn s orders) (rows_ended last)
    ∙ (append_assoc text (rows_begun first) (drawn s orders ++ rows_ended last)
    ∙ (ap (λ (c : ℕ). text ++ (rows_begun c ++ (drawn s orders ++ rows_ended last))) at_first
    ∙ (ap (λ (c : ℕ). text ++ (rows_begun s.clock ++ (drawn s orders ++ rows_ended c))) at_last
    ∙ ap (λ (x : State). text ++ (rows_begun s.clock ++ (drawn s orders ++ rows_ended x.clock))) is_now)))))

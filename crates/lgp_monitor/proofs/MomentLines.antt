-- A line that asks for the moment of an order: what is replied, and nothing is changed.
use Rattle.std.proofs.Common.{◌≡◌, ◌∙◌, ℕ, Some, Result, Ok, Err, OnOk, List, [], ◌++◌, ap, refl, sym}
use Rattle.lgp_fields.specs.declared.records.RecordForm.{RecordForm}
use Rattle.lgp_stream.specs.KeptLine.{Kept, kept_of}
use Rattle.lgp_stream.specs.Language.{IsAnswered}
use Rattle.lgp_stream.specs.Transcript.{Lines, Recorded, after_meaning}
use Rattle.lgp_stream.proofs.AfterLemmas.{after-none}
use Rattle.lgp_script.specs.LabState.{LabState, opening_state}
use Rattle.lgp_script.specs.Script.{script_language}
use Rattle.lgp_monitor.specs.Monitor.{answer_in, meaning_at, order_asked, reply_in, reply_there}

module _ (r : Recorded LabState) (form : RecordForm) (kept : Kept) (order : ℕ) (text : List ℕ) (is : kept ≡ kept_of text) (asked : order_asked r kept ≡ Some order) where
  here : order_asked r (kept_of text) ≡ Some order
  here = ap (order_asked r) (sym is) ∙ asked

  replied : reply_in r form text ≡ reply_there r form kept order
  unfolding reply_in
  replied = rw here (ap (λ (k : Kept). reply_there r form k order) (sym is))

  stands_for_none : meaning_at r text ≡ Lines []
  unfolding meaning_at
  stands_for_none = rw here refl

  pub there : {E T : Type 0} (result : Result T E) (before after : List ℕ) → OnOk result (after ≡ before ++ reply_there r form kept order) → OnOk result (IsAnswered before after r (answer_in r form text))
  there (Ok t) before after said = record {
    reply = said ∙ ap (λ (t : List ℕ). before ++ t) (sym replied);
    after = sym (ap (after_meaning script_language opening_state r) stands_for_none ∙ after-none script_language r);
  }
  there (Err e) before after said = tt

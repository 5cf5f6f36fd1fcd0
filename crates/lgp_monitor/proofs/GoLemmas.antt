-- Lines answered one part after another.
use Rattle.std.proofs.Common.{ℕ, List, ◌++◌, sym, ap, ◌∙◌, append_assoc}
use Rattle.lgp_stream.specs.Language.{IsAnswered, Language}
use Rattle.lgp_stream.specs.Transcript.{Recorded, after_lines, lines_answered, replies_text}
use Rattle.lgp_stream.proofs.AfterLemmas.{after-append, replies-append}

pub both_parts : {S : Type 0} (language : Language S) (r₀ r₁ r₂ : Recorded S) (xs ys : List (List ℕ)) (t₀ t₁ t₂ : List ℕ) → IsAnswered t₀ t₁ r₁ (lines_answered language r₀ xs) → IsAnswered t₁ t₂ r₂ (lines_answered language r₁ ys)
    → IsAnswered t₀ t₂ r₂ (lines_answered language r₀ (xs ++ ys))
both_parts {S} language r₀ r₁ r₂ xs ys t₀ t₁ t₂ first second = record {
  reply = second.reply ∙ (ap (λ (t : List ℕ). t ++ replies_text language r₁ ys) first.reply
      ∙ (append_assoc t₀ (replies_text language r₀ xs) (replies_text language r₁ ys)
      ∙ ap (λ (t : List ℕ). t₀ ++ t) (ap (λ (r : Recorded S). replies_text language r₀ xs ++ replies_text language r ys) first.after ∙ sym (replies-append _ r₀ xs ys))));
  after = second.after ∙ (ap (λ (r : Recorded S). after_lines language r ys) first.after ∙ after-append _ r₀ xs ys);
}

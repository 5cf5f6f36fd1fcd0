-- A source that is gathered piece by piece.
use Rattle.std.proofs.Common.{◌≡◌, ℕ, ◌+◌, ◌||◌, ◌++◌, Bool, true, false, cond, Option, List, [], length, nat_lt, refl, sym, ap, ◌∙◌, arith, length-append}
use Rattle.std.specs.Io.KnownBytes.{Consumes}
use Rattle.std.proofs.lemmas.Bool.Decides.{nat_tests}
use Rattle.lgp_script.specs.SourceText.{SourceText, source_of, with_bytes}
use Rattle.lgp_script.specs.FilesInside.{HasGathered}
use Rattle.lgp_stream.proofs.KnownLemmas.{Consumes-trans}

gathered_so : (limit : ℕ) (text bytes : List ℕ) (too_long : Bool) → nat_lt limit (length text) ≡ too_long
    → (too_long || nat_lt limit (length (cond too_long [] text) + length bytes)) ≡ nat_lt limit (length (text ++ bytes))
gathered_so limit text bytes true long =
    let all : nat_lt limit (length (text ++ bytes)) ≡ true = simp length-append (grind (arith, nat_tests)) in
    sym all
gathered_so limit text bytes false short = ap (nat_lt limit) (sym (length-append text bytes))

kept_so : (long more : Bool) (text bytes : List ℕ) → (long ≡ true → more ≡ true) → cond more [] (cond long [] text ++ bytes) ≡ cond more [] (text ++ bytes)
kept_so true more text bytes leads = rw (leads refl) refl
kept_so false more text bytes leads = refl

still_long : (limit : ℕ) (text bytes : List ℕ) → nat_lt limit (length text) ≡ true → nat_lt limit (length (text ++ bytes)) ≡ true
still_long limit text bytes long =
    simp length-append (grind (arith, nat_tests))

pub with_bytes-source_of : (text bytes : List ℕ) → with_bytes (source_of text) bytes ≡ source_of (text ++ bytes)
unfolding source_of
with_bytes-source_of text bytes =
    grind (arith, gathered_so, kept_so, still_long)

pub HasGathered-more : (r₀ r₁ r₂ : Option (List ℕ)) (before after : SourceText) (bytes : List ℕ) → HasGathered r₀ r₁ before → Consumes r₁ r₂ bytes → after ≡ with_bytes before bytes → HasGathered r₀ r₂ after
HasGathered-more r₀ r₁ r₂ before after bytes so_far more added = record {
  bytes = so_far.bytes ++ bytes;
  consumed = Consumes-trans r₀ r₁ r₂ so_far.bytes bytes so_far.consumed more;
  gathered = added ∙ (ap (λ (s : SourceText). with_bytes s bytes) so_far.gathered ∙ with_bytes-source_of _ _);
}

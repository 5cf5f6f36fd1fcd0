-- What is known of bytes read and written, one call after another.
use Rattle.std.proofs.Common.{◌≡◌, ℕ, ◌+◌, ◌-◌, Option, Some, None, List, [], ◌++◌, length, take, drop, refl, sym, ap, ◌∙◌, append_assoc}
use Rattle.std.specs.Io.KnownBytes.{Appends, Consumes}
use Rattle.std.proofs.lemmas.List.{append-nil, take_rest}
use Rattle.std.proofs.Math.Seq.{take-add}

pub Appends-trans : (a b c : Option (List ℕ)) (xs ys : List ℕ) → Appends a b xs → Appends b c ys → Appends a c (xs ++ ys)
Appends-trans None b c xs ys first second = tt
Appends-trans (Some us) None c xs ys first second = absurd first
Appends-trans (Some us) (Some vs) None xs ys first second = absurd second
Appends-trans (Some us) (Some vs) (Some ws) xs ys first second = second ∙ (ap (λ zs. zs ++ ys) first ∙ append_assoc us xs ys)

pub Consumes-trans : (a b c : Option (List ℕ)) (xs ys : List ℕ) → Consumes a b xs → Consumes b c ys → Consumes a c (xs ++ ys)
Consumes-trans None b c xs ys first second = tt
Consumes-trans (Some us) None c xs ys first second = absurd first
Consumes-trans (Some us) (Some vs) None xs ys first second = absurd second
Consumes-trans (Some us) (Some vs) (Some ws) xs ys first second = first ∙ (ap (λ zs. xs ++ zs) second ∙ sym (append_assoc xs ys ws))

pub Appends-none : (a : Option (List ℕ)) → Appends a a []
Appends-none None = tt
Appends-none (Some us) = sym (append-nil us)

pub Consumes-none : (a : Option (List ℕ)) → Consumes a a []
Consumes-none None = tt
Consumes-none (Some us) = refl

-- a front and a piece after it
pub take-piece : (bytes : List ℕ) (taken count : ℕ) → take (taken + count) bytes ≡ take taken bytes ++ take count (take (length bytes - taken) (drop taken bytes))
take-piece bytes taken count = rw (take_rest bytes taken) (take-add taken count bytes)

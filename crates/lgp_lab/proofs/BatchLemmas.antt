-- One script more of a batch.
use Rattle.std.proofs.Common.{◌≡◌, ℕ, ◌+◌, ◌<◌, ◌≤◌, max, List, Option, Bool, Result, Ok, Err, drop, get_or, length, inl, inr, refl, arith}
use Rattle.std.proofs.lemmas.List.{drop_all, drop_more}
use Rattle.lgp_lab.specs.Tasks.{Failures, HasDone, IsBatch, IsOpenedAs, Work, part_work, status_for}
use Rattle.lgp_stream.specs.declared.stream.StreamFault.TheVariants.{Read, Write, Memory}
use Rattle.lgp_lab.specs.declared.tasks.FileFault.{FileFault}
use Rattle.lgp_lab.specs.declared.tasks.FileFault.TheVariants.{NotOpened, Broken}

pub batch_done : (opens : List ℕ → Option Bool) (contents : List ℕ → Option (List ℕ)) (failures : Failures) (worst : ℕ) (names : List (List ℕ)) (i : ℕ)
    (w : Option (List ℕ))
    → length names ≤ i
    → IsBatch opens contents failures worst (drop i names) worst w w
unfolding IsBatch
batch_done opens contents failures worst names i w beyond = rw (drop_all i _ beyond) (refl, refl)

-- what became of a file after which a batch goes on says nothing of failures
done_alike : (work : Work) (known : Option (List ℕ)) (then failures : Failures) (outcome : Result ℕ FileFault) (w₀ w : Option (List ℕ))
    → status_for outcome < 2 → HasDone work known then outcome w₀ w → HasDone work known failures outcome w₀ w
done_alike work known then failures (Ok count) w₀ w small done = done
done_alike work known then failures (Err NotOpened) w₀ w small done = done
done_alike work known then failures (Err (Broken Read)) w₀ w small done = absurd (omega (arith, small))
done_alike work known then failures (Err (Broken (Write taken))) w₀ w small done = absurd (omega (arith, small))
done_alike work known then failures (Err (Broken Memory)) w₀ w small done = absurd (omega (arith, small))

pub batch_goes_on : (opens : List ℕ → Option Bool) (contents : List ℕ → Option (List ℕ)) (then failures : Failures) (worst after : ℕ) (names : List (List ℕ)) (i : ℕ)
    (name : List ℕ) (outcome : Result ℕ FileFault) (status : ℕ) (w₀ w₁ w : Option (List ℕ))
    → i < length names
    → name ≡ get_or names i name
    → IsOpenedAs (opens name) outcome
    → HasDone (part_work name) (contents name) then outcome w₀ w₁
    → status_for outcome < 2
    → after ≡ max worst (status_for outcome)
    → IsBatch opens contents failures after (drop (i + 1) names) status w₁ w
    → IsBatch opens contents failures worst (drop i names) status w₀ w
unfolding IsBatch
batch_goes_on opens contents then failures worst after names i name outcome status w₀ w₁ w within named opened done small greatest rest =
    rw (drop_more names i name within, ← named)
    (status_for outcome, w₁, (outcome, opened, done_alike _ _ then failures outcome w₀ w₁ small done, refl), inl (small, rw (← greatest) rest))

pub batch_ends : (opens : List ℕ → Option Bool) (contents : List ℕ → Option (List ℕ)) (failures : Failures) (worst status : ℕ) (names : List (List ℕ)) (i : ℕ)
    (name : List ℕ) (outcome : Result ℕ FileFault) (w₀ w : Option (List ℕ))
    → i < length names
    → name ≡ get_or names i name
    → IsOpenedAs (opens name) outcome
    → HasDone (part_work name) (contents name) failures outcome w₀ w
    → 2 ≤ status_for outcome
    → status ≡ max worst (status_for outcome)
    → IsBatch opens contents failures worst (drop i names) status w₀ w
unfolding IsBatch
batch_ends opens contents failures worst status names i name outcome w₀ w within named opened done great greatest =
    rw (drop_more names i name within, ← named) (status_for outcome, w, (outcome, opened, done, refl), inr (great, greatest, refl))

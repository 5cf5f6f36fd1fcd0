-- Answers that were given, where a call ended well.
use Rattle.std.proofs.Common.{◌≡◌, List, ℕ, Result, Ok, Err, subst}
use Rattle.std.specs.Result.{OnOk}
use Rattle.lgp_stream.specs.Language.{Answer, IsAnswered}

-- what holds in any case
pub on_ok_always : {T E P : Type 0} (result : Result T E) → P → OnOk result P
on_ok_always (Ok value) p = p
on_ok_always (Err fault) p = tt

-- what follows from two facts that hold where a call ended well
pub both_on_ok : {T E A B C : Type 0} (result : Result T E) → OnOk result A → OnOk result B → (A → B → C) → OnOk result C
both_on_ok (Ok value) a b both = both a b
both_on_ok (Err fault) a b both = tt

-- an answer by another name
pub answered_as : {T E S : Type 0} (result : Result T E) (before text : List ℕ) (state : S) (answer other : Answer S) → answer ≡ other
    → OnOk result (IsAnswered before text state answer) → OnOk result (IsAnswered before text state other)
answered_as {T} {E} {S} result before text state answer other e is =
    subst (λ (a : Answer S). OnOk result (IsAnswered before text state a)) e is

use Rattle.std.proofs.Common.{◌≡◌, ℕ, false, slice_index_or}
use Rattle.std.proofs.lemmas.Result.{IfOk-weaker}
use Rattle.lgp_assembler.proofs.ScanSteps.{clear_places}
use Rattle.lgp_assembler.proofs.taken_places.none_taken.Goals as goal

pub returns-clause-clear : goal.returns-clause-clear
returns-clause-clear g c =
    IfOk-weaker c.vec.result _ (λ taken. (p : ℕ) → slice_index_or taken.items p false ≡ false) (λ taken same p. clear_places _ 4096 p (same (λ y e. e))) c.vec.ensures.items_if_clones_equal

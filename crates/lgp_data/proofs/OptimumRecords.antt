-- What an `Optimum` tells of its words, and what the run that it has noted tells of them, are the same records.
use Rattle.std.proofs.Common.{◌≡◌, ◌∙◌, ℕ, ◌<◌, List, ◌++◌, sum, true, ap}
use Rattle.lgp_table.specs.State.{State}
use Rattle.lgp_optimum.specs.Gains.{Moves, best_of, gains_of, moves_in, moves_of, times_of}
use Rattle.lgp_optimum.specs.OptimumKept.{IsOptimumOf, Kept}
use Rattle.lgp_optimum.specs.declared.optimum.Best.{Best}
use Rattle.lgp_optimum.specs.declared.uses.Freedom.{Freedom}
use Rattle.lgp_optimum.specs.declared.uses.Freedom.TheVariants as freedoms
use Rattle.lgp_optimum.proofs.GainLemmas.{Agrees, agrees, same_best, same_gains, same_ranking, same_times}
use Rattle.lgp_fields.specs.Printed.{record_in}
use Rattle.lgp_fields.specs.declared.records.RecordForm.{RecordForm}
use Rattle.lgp_data.specs.OptimumData.{gains_in, numbers_record, optimum_in, section_in, totals_record, word_moves_record}

same_section : (form : RecordForm) (names : List (List ℕ × ℕ)) (one other : Moves) (wanted : Freedom) → Agrees one other → section_in form names one wanted ≡ section_in form names other wanted
unfolding section_in
same_section form names one other wanted a = ap (gains_in form names wanted) (same_ranking one other wanted 10 a)

records_of : RecordForm → ℕ → ℕ → ℕ → List ℕ → List ℕ → List ℕ → List ℕ
records_of form orders took together free performed named = record_in form (totals_record orders took together) ++ (free ++ (performed ++ named))

same_optimum : (form : RecordForm) (names : List (List ℕ × ℕ)) (orders : ℕ) (one other : Moves) → Agrees one other → optimum_in form names orders one ≡ optimum_in form names orders other
unfolding optimum_in records_of
same_optimum form names orders one other a =
    let section : Moves → Freedom → List ℕ = section_in form names in
    let together : Moves → ℕ = λ moves. sum (gains_of moves freedoms.Free) in
    ap (λ (t : ℕ). records_of form orders t (together one) (section one freedoms.Free) (section one freedoms.Performed) (section one freedoms.NamedByChanged)) a.took
    ∙ (ap (λ (g : List ℕ). records_of form orders other.took (sum g) (section one freedoms.Free) (section one freedoms.Performed) (section one freedoms.NamedByChanged)) (same_gains one other freedoms.Free a)
    ∙ (ap (λ (t : List ℕ). records_of form orders other.took (together other) t (section one freedoms.Performed) (section one freedoms.NamedByChanged)) (same_section form names one other freedoms.Free a)
    ∙ (ap (λ (t : List ℕ). records_of form orders other.took (together other) (section other freedoms.Free) t (section one freedoms.NamedByChanged)) (same_section form names one other freedoms.Performed a)
    ∙ ap (λ (t : List ℕ). records_of form orders other.took (together other) (section other freedoms.Free) (section other freedoms.Performed) t) (same_section form names one other freedoms.NamedByChanged a))))

same_word : (form : RecordForm) (names : List (List ℕ × ℕ)) (orders : ℕ) (one other : Moves) (word : ℕ) → Agrees one other → word < 4096
    → record_in form (word_moves_record names orders one word) ≡ record_in form (word_moves_record names orders other word)
unfolding word_moves_record
same_word form names orders one other word a on_drum =
    ap (λ (t : ℕ). record_in form (numbers_record names orders t word (one.free word) (best_of one word) (times_of one word))) a.took
    ∙ (ap (λ (f : Freedom). record_in form (numbers_record names orders other.took word f (best_of one word) (times_of one word))) (a.free word on_drum)
    ∙ (ap (λ (b : Best). record_in form (numbers_record names orders other.took word (other.free word) b (times_of one word))) (same_best one other word a on_drum)
    ∙ ap (λ (t : List ℕ). record_in form (numbers_record names orders other.took word (other.free word) (best_of other word) t)) (same_times one other word a on_drum)))

pub optimum_records : (form : RecordForm) (names : List (List ℕ × ℕ)) (orders : ℕ) (kept : Kept) (s : State) (count : ℕ) → IsOptimumOf kept s count
    → optimum_in form names orders (moves_in kept) ≡ optimum_in form names orders (moves_of s count)
optimum_records form names orders kept s count h = same_optimum form names orders (moves_in kept) (moves_of s count) (agrees kept s count h)

pub word_records : (form : RecordForm) (names : List (List ℕ × ℕ)) (orders : ℕ) (kept : Kept) (s : State) (count word : ℕ) → IsOptimumOf kept s count → word < 4096
    → record_in form (word_moves_record names orders (moves_in kept) word) ≡ record_in form (word_moves_record names orders (moves_of s count) word)
word_records form names orders kept s count word h on_drum = same_word form names orders (moves_in kept) (moves_of s count) word (agrees kept s count h) on_drum

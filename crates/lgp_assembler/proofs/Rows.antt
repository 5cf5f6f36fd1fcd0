-- The first row of the table that holds.
use Rattle.std.proofs.Common.{◌≡◌, ◌<◌, ◌&&◌, ℕ, Bool, true, false, List, [], ◌∷◌, ◌++◌, Some, Result, sym, ap, ◌∙◌, arith, ⊎_elim, nat_lt, nat_le, slice_index_or, is_none}
use Rattle.std.specs.Option.{option_map_or}
use Rattle.std.proofs.lemmas.Bool.{le-leb, cases_Bool, cases_lt, cond-true, cond-false, and_from}
use Rattle.lgp_assembler.specs.declared.operands.Meaning.{Meaning}
use Rattle.lgp_assembler.specs.declared.operands.OperandFault.{OperandFault}
use Rattle.lgp_assembler.specs.declared.refusal.FaultKind.{FaultKind}
use Rattle.lgp_assembler.specs.declared.refusal.FaultKind.TheVariants.{BadByte, AfterEnd, Extra, BadLabel, LabelTwice, UnknownOrder, MissingOperand, BadOperand, UnknownName, OutOfRange, PastEnd, InLoader, PlaceTaken}
use Rattle.lgp_assembler.specs.Fields.{LineFields}
use Rattle.lgp_assembler.specs.Places.{has_word, place_reached, place_of, has_ended, names_of, is_taken}
use Rattle.lgp_word.specs.Drum.{drum_size}
use Rattle.lgp_assembler.specs.Operations.{least_operands, most_operands}
use Rattle.lgp_assembler.specs.Parts.{is_loaders}
use Rattle.lgp_assembler.specs.Faults.{says_something, is_bad_label, is_label_again, is_misformed, is_unknown, is_out_of_range, line_meaning, first_kind, fault_of}
use Rattle.lgp_assembler.specs.ScanInside.{rows, Stands, ArePlacesTaken, coming_fault}

-- the kind of a row that holds, and of those after one that does not
pub kind_here : (holds : Bool) (kind : FaultKind) (more : List (Bool × FaultKind)) → holds ≡ true → first_kind ((holds, kind) ∷ more) ≡ Some kind
kind_here holds kind more e = grind (arith, cond-true)

pub kind_after : (holds : Bool) (kind : FaultKind) (more : List (Bool × FaultKind)) → holds ≡ false → first_kind ((holds, kind) ∷ more) ≡ first_kind more
kind_after holds kind more e = grind (arith, cond-false)

-- what comes after a row that holds does not matter
cut_at : (front : List (Bool × FaultKind)) (holds : Bool) (kind : FaultKind) (one other : List (Bool × FaultKind)) → holds ≡ true
    → first_kind (front ++ (holds, kind) ∷ one) ≡ first_kind (front ++ (holds, kind) ∷ other)
cut_at [] holds kind one other e = kind_here _ _ one e ∙ sym (kind_here _ _ other e)
cut_at ((first, reported) ∷ front) holds kind one other e = grind (arith, kind_here, kind_after, cut_at front holds kind one other e)

-- the rows before those on places
abbrev front_rows : LineFields → Result Meaning OperandFault → Bool → List (List ℕ × ℕ) → List (Bool × FaultKind)
front_rows line meaning ended before =
    (line.is_bad, BadByte)
    ∷ (ended && says_something line, AfterEnd)
    ∷ (nat_lt (option_map_or most_operands line.operation 2) line.count, Extra)
    ∷ (is_bad_label line.label, BadLabel)
    ∷ (is_label_again line.label before, LabelTwice)
    ∷ (line.has_operation && is_none line.operation, UnknownOrder)
    ∷ (nat_lt line.count (option_map_or least_operands line.operation 0), MissingOperand)
    ∷ (is_misformed meaning, BadOperand)
    ∷ (is_unknown meaning, UnknownName)
    ∷ (is_out_of_range meaning, OutOfRange)
    ∷ []

abbrev last_rows : LineFields → ℕ → Bool → List (Bool × FaultKind)
last_rows line place taken = (has_word line && is_loaders place, InLoader) ∷ (taken, PlaceTaken) ∷ []

-- two answers on a taken place serve alike where they agree for a word on the drum
same_taken : (line : LineFields) (meaning : Result Meaning OperandFault) (place : ℕ) (ended : Bool) (before : List (List ℕ × ℕ)) (one other : Bool)
    → (place < 4096 → one ≡ other)
    → first_kind (rows line meaning place ended before one) ≡ first_kind (rows line meaning place ended before other)
same_taken line meaning place ended before one other agree = ⊎_elim
    (λ word. ⊎_elim
    (λ within. ap (λ t. first_kind (front_rows line meaning ended before ++ (has_word line && nat_le drum_size place, PastEnd) ∷ last_rows line place (has_word line && t))) (agree within))
    (λ past. cut_at (front_rows line meaning ended _) _ PastEnd (last_rows line place (has_word line && one)) (last_rows line place (has_word line && other))
    (and_from _ _ word (le-leb drum_size place (omega arith))))
    (cases_lt place 4096))
    (λ none.
    let gone : (t : Bool) → (has_word line && t) ≡ false = λ t. ap (λ w. w && t) none in
    ap (λ c. first_kind (front_rows line meaning ended before ++ (has_word line && nat_le drum_size place, PastEnd) ∷ last_rows line place c)) (gone one ∙ sym (gone other)))
    (cases_Bool (has_word line))

-- the table by what is kept of the lines is that of the lines
pub fault_stands : (names : List (List ℕ × ℕ)) (line : LineFields) (lines place : ℕ) (ended : Bool) (before : List (List ℕ × ℕ)) (taken : List Bool) (earlier : List LineFields)
    → Stands lines place ended before earlier → ArePlacesTaken taken earlier
    → let here = place_reached line place in
    coming_fault line (line_meaning names here line) here ended before taken ≡ fault_of names line earlier
unfolding fault_of
fault_stands names line lines place ended before taken earlier s marks =
    let here = place_reached line place in
    let here_is : here ≡ place_of line earlier = ap (place_reached line) s.place_is in
    let mark = slice_index_or taken here false in
    let same_mark : here < 4096 → mark ≡ is_taken here earlier = λ small. marks.places_are here small in
    same_taken line (line_meaning names here line) here ended before mark (is_taken here earlier) same_mark
    ∙ ap (λ b. first_kind (rows line (line_meaning names here line) here b before (is_taken here earlier))) s.ended_is
    ∙ ap (λ ns. first_kind (rows line (line_meaning names here line) here (has_ended earlier) ns (is_taken here earlier))) s.names_are
    ∙ ap (λ h. first_kind (rows line (line_meaning names h line) h (has_ended earlier) (names_of earlier) (is_taken h earlier))) here_is

-- A line without a fault has a cell exactly where it has a word, and the cells of a source are those of its lines in order.
use Rattle.std.proofs.Common.{◌≡◌, ◌-◌, ◌*◌, ◌%◌, ◌++◌, ◌^◌, ◌==◌, ℕ, ℤ, length, slice_index, Bool, true, false, cond, List, [], ◌∷◌, Option, None, Some, is_some, Result, Ok, Err, refl, sym, ◌∙◌, option_to_list, option_map, ok_or, nat_le, nat_lt}
use Rattle.std.specs.Option.{option_map_or}
use Rattle.std.proofs.lemmas.Bool.{true≢false}
use Rattle.std.proofs.lemmas.List.{append_assoc, append-nil}
use Rattle.lgp_word.specs.declared.order.Op.{Op}
use Rattle.lgp_word.specs.declared.order.Op.TheVariants.{Z, B, Y, R, I, D, N, M, P, E, U, T, H, C, A, S}
use Rattle.lgp_word.specs.Digits.{word_of_digits}
use Rattle.lgp_word.specs.Decimal.{decimal_number}
use Rattle.lgp_flexo.specs.Code.{code_at}
use Rattle.lgp_fraction.specs.declared.fraction.FractionFault.{FractionFault}
use Rattle.lgp_fraction.specs.declared.fraction.FractionFault.TheVariants.{Form, OutOfRange}
use Rattle.lgp_assembler.specs.declared.operations.Operation.{Operation}
use Rattle.lgp_assembler.specs.declared.operations.Operation.TheVariants.{Order, MinusT, Org, Word, Frac, Int, End}
use Rattle.lgp_assembler.specs.declared.operands.Meaning.{Meaning}
use Rattle.lgp_assembler.specs.declared.operands.Meaning.TheVariants.{Cell, Place, Nothing}
use Rattle.lgp_assembler.specs.declared.operands.OperandFault.{OperandFault}
use Rattle.lgp_assembler.specs.declared.operands.OperandFault.TheVariants.{Misformed, Unknown, Outside}
use Rattle.lgp_assembler.specs.Operations.{makes_word}
use Rattle.lgp_assembler.specs.AddressOperands.{address_operand}
use Rattle.lgp_assembler.specs.Operands.{cell_of_order, printing_cell, sign_operand, order_operand, scaled_word, word_of_parts, integer_word, unsigned_part, cell_of_fraction, place_meaning, meaning_of}
use Rattle.lgp_assembler.specs.Fields.{LineFields}
use Rattle.lgp_assembler.specs.Places.{has_word, place_of, has_ended, names_of, is_taken}
use Rattle.lgp_assembler.specs.ScanInside.{rows}
use Rattle.lgp_assembler.specs.Faults.{is_misformed, is_unknown, is_out_of_range, line_meaning, fault_of, faults_in}
use Rattle.lgp_assembler.specs.Image.{cell_at, line_cell, cells_in, passed_lines}
use Rattle.lgp_assembler.proofs.DraftSteps.{none_fails, append_none, list_none}

-- ---- what an operation that makes a word gives is a word, or a fault

abbrev IsWordOrFault : Result Meaning OperandFault → Type 0
IsWordOrFault (Ok (Cell word)) = Unit {0}
IsWordOrFault (Ok (Place address)) = ⊥
IsWordOrFault (Ok Nothing) = ⊥
IsWordOrFault (Err fault) = Unit {0}

abbrev IsNoWord : Result Meaning OperandFault → Type 0
IsNoWord (Ok (Cell word)) = ⊥
IsNoWord _ = Unit {0}

chosen : (b : Bool) (one other : Result Meaning OperandFault) → IsWordOrFault one → IsWordOrFault other → IsWordOrFault (cond b one other)
chosen true one other is_one is_other = is_one
chosen false one other is_one is_other = is_other

order_gives : (minus : Bool) (op : Op) (r : Result ℕ OperandFault) → IsWordOrFault (cell_of_order minus op r)
order_gives minus op (Ok address) = tt
order_gives minus op (Err fault) = tt

printing_gives : (code : Option ℕ) → IsWordOrFault (ok_or (option_map printing_cell code) Misformed)
printing_gives (Some code) = tt
printing_gives None = tt

sign_gives : (op : Op) (text : List ℕ) → IsWordOrFault (sign_operand op text)
sign_gives P text = chosen (length text == 2) (ok_or (option_map printing_cell (code_at (slice_index text 1))) Misformed) (Err Misformed) (printing_gives (code_at (slice_index text 1))) tt
sign_gives Z text = tt
sign_gives B text = tt
sign_gives Y text = tt
sign_gives R text = tt
sign_gives I text = tt
sign_gives D text = tt
sign_gives N text = tt
sign_gives M text = tt
sign_gives E text = tt
sign_gives U text = tt
sign_gives T text = tt
sign_gives H text = tt
sign_gives C text = tt
sign_gives A text = tt
sign_gives S text = tt

operand_gives : (names : List (List ℕ × ℕ)) (place : ℕ) (minus : Bool) (op : Op) (text : List ℕ) → IsWordOrFault (order_operand names place minus op text)
unfolding order_operand
operand_gives names place minus op text =
    let address = address_operand names place text in
    chosen _ _ _ (sign_gives op _) (order_gives minus op address)

scaled_gives : (minus : Bool) (scaled : ℕ) → IsWordOrFault (scaled_word minus scaled)
scaled_gives true scaled = chosen (nat_le scaled (2 ^ 30)) (Ok (Cell ((2 ^ 32 - 2 * scaled) % 2 ^ 32))) (Err Outside) tt tt
scaled_gives false scaled = chosen (nat_lt scaled (2 ^ 30)) (Ok (Cell (2 * scaled))) (Err Outside) tt tt

parts_give : (minus : Bool) (size point : Option ℕ) → IsWordOrFault (word_of_parts minus size point)
parts_give minus None None = tt
parts_give minus None (Some point) = tt
parts_give minus (Some size) None = tt
parts_give minus (Some size) (Some point) =
    let scaled = size * 2 ^ (30 - point) in
    chosen (nat_le point 30) (scaled_word minus scaled) (Err Misformed) (scaled_gives minus scaled) tt

integer_gives : (number point : List ℕ) → IsWordOrFault (integer_word number point)
unfolding integer_word
integer_gives number point = parts_give (slice_index number 0 == 45) (decimal_number 10 (unsigned_part number)) (decimal_number 2 point)

fraction_gives : (r : Result ℤ FractionFault) → IsWordOrFault (cell_of_fraction r)
fraction_gives (Ok steps) = tt
fraction_gives (Err Form) = tt
fraction_gives (Err OutOfRange) = tt

word_gives : (word : Option ℕ) → IsWordOrFault (ok_or (option_map Cell word) Misformed)
word_gives (Some word) = tt
word_gives None = tt

place_gives : (r : Result ℕ OperandFault) → IsNoWord (place_meaning r)
place_gives (Ok address) = tt
place_gives (Err fault) = tt

module _ (names : List (List ℕ × ℕ)) (place : ℕ) where
  makes : (operation : Operation) (first second : Option (List ℕ)) → makes_word operation ≡ true → IsWordOrFault (meaning_of names place operation first second)
  unfolding meaning_of
  makes (Order op) None second e = tt
  makes (Order op) (Some text) second e = operand_gives _ _ _ op _
  makes MinusT None second e = tt
  makes MinusT (Some text) second e = operand_gives _ _ _ T _
  makes Word None second e = tt
  makes Word (Some text) second e = word_gives (word_of_digits text)
  makes Frac None second e = tt
  makes Frac (Some text) second e = fraction_gives _
  makes Int None second e = tt
  makes Int (Some number) None e = tt
  makes Int (Some number) (Some point) e = integer_gives _ _
  makes Org first second e = absurd (true≢false (sym e))
  makes End first second e = absurd (true≢false (sym e))

  makes_none : (operation : Operation) (first second : Option (List ℕ)) → makes_word operation ≡ false → IsNoWord (meaning_of names place operation first second)
  unfolding meaning_of
  makes_none Org None second e = tt
  makes_none Org (Some text) second e = place_gives _
  makes_none End None second e = tt
  makes_none End (Some text) second e = place_gives _
  makes_none (Order op) first second e = absurd (true≢false e)
  makes_none MinusT first second e = absurd (true≢false e)
  makes_none Word first second e = absurd (true≢false e)
  makes_none Frac first second e = absurd (true≢false e)
  makes_none Int first second e = absurd (true≢false e)

  line_makes : (operation : Option Operation) (line : LineFields) → option_map_or makes_word operation false ≡ true → IsWordOrFault (option_map_or (λ o. meaning_of names place o line.first line.second) operation (Ok Nothing))
  line_makes None line e = absurd (true≢false (sym e))
  line_makes (Some operation) line e = makes _ _ _ e

  pub line_makes_none : (operation : Option Operation) (line : LineFields) → option_map_or makes_word operation false ≡ false → IsNoWord (option_map_or (λ o. meaning_of names place o line.first line.second) operation (Ok Nothing))
  line_makes_none None line e = tt
  line_makes_none (Some operation) line e = makes_none _ _ _ e

-- ---- a line without a fault

there : (place : ℕ) (r : Result Meaning OperandFault) → IsWordOrFault r → is_misformed r ≡ false → is_unknown r ≡ false → is_out_of_range r ≡ false → is_some (cell_at place r) ≡ true
there place (Ok (Cell word)) is formed known within = refl
there place (Ok (Place address)) is formed known within = absurd is
there place (Ok Nothing) is formed known within = absurd is
there place (Err Misformed) is formed known within = absurd (true≢false formed)
there place (Err Unknown) is formed known within = absurd (true≢false known)
there place (Err Outside) is formed known within = absurd (true≢false within)

pub missing : (place : ℕ) (r : Result Meaning OperandFault) → IsNoWord r → cell_at place r ≡ None
missing place (Ok (Cell word)) is = absurd is
missing place (Ok (Place address)) is = refl
missing place (Ok Nothing) is = refl
missing place (Err fault) is = refl

module _ (names : List (List ℕ × ℕ)) (earlier : List LineFields) (line : LineFields) (faultless : fault_of names line earlier ≡ None) where
  pub cell_there : has_word line ≡ true → is_some (line_cell names earlier line) ≡ true
  unfolding fault_of
  cell_there word =
      let place = place_of line earlier in
      let fails = none_fails (rows line (line_meaning names place line) place (has_ended earlier) (names_of earlier) (is_taken place earlier)) faultless in
      there place (line_meaning names place line) (line_makes names place line.operation line word)
      fails.1.1.1.1.1.1.1.0 fails.1.1.1.1.1.1.1.1.0 fails.1.1.1.1.1.1.1.1.1.0

  pub cell_missing : has_word line ≡ false → line_cell names earlier line ≡ None
  cell_missing none =
      missing _ _ (line_makes_none _ _ line.operation line none)

-- ---- the cells of lines after others, in order of the source

abbrev pub cells_after : List (List ℕ × ℕ) → List LineFields → List LineFields → List (ℕ × ℕ)
cells_after names earlier [] = []
cells_after names earlier (line ∷ lines) = option_to_list (line_cell names earlier line) ++ cells_after names (line ∷ earlier) lines

pub cells_in_order : (names : List (List ℕ × ℕ)) (earlier lines : List LineFields) → cells_in names (passed_lines earlier lines) ≡ cells_in names earlier ++ cells_after names earlier lines
unfolding cells_in
cells_in_order names earlier [] = sym (append-nil (cells_in names earlier))
cells_in_order names earlier (line ∷ lines) =
    cells_in_order names (line ∷ earlier) lines
    ∙ append_assoc (cells_in names earlier) (option_to_list (line_cell names earlier line)) (cells_after names (line ∷ earlier) lines)

-- ---- no line of a source without faults has one

abbrev pub AreFaultless : List (List ℕ × ℕ) → List LineFields → List LineFields → Type 0
AreFaultless names earlier [] = Unit {0}
AreFaultless names earlier (line ∷ lines) = (fault_of names line earlier ≡ None) × AreFaultless names (line ∷ earlier) lines

pub front_faultless : (names : List (List ℕ × ℕ)) (earlier lines : List LineFields) → faults_in names (passed_lines earlier lines) ≡ [] → faults_in names earlier ≡ []
unfolding faults_in
front_faultless names earlier [] none = none
front_faultless names earlier (line ∷ lines) none = (append_none (faults_in names earlier) _ (front_faultless names (line ∷ earlier) lines none)).0

pub each_faultless : (names : List (List ℕ × ℕ)) (earlier lines : List LineFields) → faults_in names (passed_lines earlier lines) ≡ [] → AreFaultless names earlier lines
unfolding faults_in
each_faultless names earlier [] none = tt
each_faultless names earlier (line ∷ lines) none = (
  list_none line.number _ (append_none (faults_in names earlier) _ (front_faultless names (line ∷ earlier) lines none)).1,
  each_faultless names (line ∷ earlier) lines none,
)

-- What the lines of a source give: words, and a start that is an address.
use Rattle.std.proofs.Common.{◌≡◌, ◌⊎◌, ◌<◌, ◌≤◌, ◌+◌, ◌-◌, ◌*◌, ◌^◌, ◌++◌, ◌==◌, ℕ, ℤ, pos, ◌*ℤ◌, Bool, true, false, cond, if◌then◌else◌, List, [], ◌∷◌, length, slice_index, Option, None, Some, Result, Ok, Err, refl, sym, subst, ⊎_elim, arith, nat_lt, IfOk, IfSome, option_to_list, option_map, ok_or, position}
use Rattle.std.specs.List.{All}
use Rattle.std.specs.Option.{option_map_or, option_or}
use Rattle.std.specs.Str.{byte}
use Rattle.std.proofs.lemmas.Bool.Decides.{nat_tests}
use Rattle.std.proofs.lemmas.Int.{int_rem_euclid_is}
use Rattle.std.proofs.lemmas.List.{append-nil}
use Rattle.std.proofs.lemmas.List.Elements.{All-head, All-push, All-tail}
use Rattle.std.proofs.lemmas.List.Quantifiers.{position-Some}
use Rattle.lgp_word.specs.declared.order.Op.{Op}
use Rattle.lgp_word.specs.declared.order.Op.TheVariants.{Z, B, Y, R, I, D, N, M, P, E, U, T, H, C, A, S}
use Rattle.lgp_word.specs.Address.{IsAddress}
use Rattle.lgp_word.specs.Digits.{digits, word_of_digits}
use Rattle.lgp_word.specs.Order.{letters, op_number}
use Rattle.lgp_word.specs.Word.{IsWord}
use Rattle.lgp_word.proofs.TextLemmas.{IsWord-word_of_digits}
use Rattle.lgp_fraction.specs.Arithmetic.{low_bits}
use Rattle.lgp_fraction.specs.declared.fraction.FractionFault.{FractionFault}
use Rattle.lgp_fraction.specs.declared.fraction.FractionFault.TheVariants.{Form, OutOfRange}
use Rattle.lgp_flexo.specs.Code.{code_at, code_in_row, other_signs, stop_code, stop_sign}
use Rattle.lgp_assembler.specs.declared.operations.Operation.{Operation}
use Rattle.lgp_assembler.specs.declared.operations.Operation.TheVariants.{Order, MinusT, Org, Word, Frac, Int, End}
use Rattle.lgp_assembler.specs.declared.operands.Meaning.{Meaning}
use Rattle.lgp_assembler.specs.declared.operands.Meaning.TheVariants.{Cell, Place, Nothing}
use Rattle.lgp_assembler.specs.declared.address_operands.Offset.{Offset}
use Rattle.lgp_assembler.specs.declared.operands.OperandFault.{OperandFault}
use Rattle.lgp_assembler.specs.declared.operands.OperandFault.TheVariants.{Misformed, Outside}
use Rattle.lgp_assembler.specs.AddressOperands.{address_operand, in_range, address_beside}
use Rattle.lgp_assembler.specs.Operands.{cell_of_fraction, cell_of_order, integer_word, meaning_of, order_operand, place_meaning, printing_cell, scaled_word, sign_operand, word_of_parts}
use Rattle.lgp_assembler.specs.Fields.{LineFields}
use Rattle.lgp_assembler.specs.Faults.{line_meaning}
use Rattle.lgp_assembler.specs.Image.{cell_at, cells_in, start_at, start_in}
use Rattle.lgp_assembler.specs.Parts.{AreProgramCells, is_loaders}
use Rattle.lgp_assembler.specs.Places.{place_of}
use Rattle.lgp_assembler.specs.ScanInside.{IfCell}

-- ---- operands

found : (b : Bool) (one other : Result ℕ OperandFault) → (b ≡ true → IfOk one IsAddress) → (b ≡ false → IfOk other IsAddress) → IfOk (cond b one other) IsAddress
found true one other first second = first refl
found false one other first second = second refl

ranged : (number : ℕ) → IfOk (in_range number) IsAddress
ranged number = grind (arith, found)

moved_address : (offset : Option Offset) (base : Result ℕ OperandFault) → IfOk (option_map_or (address_beside base) offset (Err Misformed)) IsAddress
moved_address None base = tt
moved_address (Some offset) (Err fault) = tt
moved_address (Some offset) (Ok number) = grind (arith, found, ranged)

address_found : (names : List (List ℕ × ℕ)) (place : ℕ) (text : List ℕ) → IfOk (address_operand names place text) IsAddress
unfolding address_operand
address_found names place text =
    grind (arith, moved_address)

-- ---- words

chosen : (b : Bool) (one other : Result Meaning OperandFault) → (b ≡ true → IfCell one IsWord) → (b ≡ false → IfCell other IsWord) → IfCell (cond b one other) IsWord
chosen true one other first second = first refl
chosen false one other first second = second refl

small_op : (op : Op) → op_number op < 16
small_op Z = omega arith
small_op B = omega arith
small_op Y = omega arith
small_op R = omega arith
small_op I = omega arith
small_op D = omega arith
small_op N = omega arith
small_op M = omega arith
small_op P = omega arith
small_op E = omega arith
small_op U = omega arith
small_op T = omega arith
small_op H = omega arith
small_op C = omega arith
small_op A = omega arith
small_op S = omega arith

order_fits : (minus : Bool) (number address : ℕ) → number < 16 → address < 4096 → IsWord ((if minus then 2 ^ 31 else 0) + number * 65536 + address * 4)
order_fits true number address op within = (omega (arith, op, within), omega arith)
order_fits false number address op within = (omega (arith, op, within), omega arith)

order_cell : (minus : Bool) (op : Op) (r : Result ℕ OperandFault) → IfOk r IsAddress → IfCell (cell_of_order minus op r) IsWord
order_cell minus op (Ok address) is = order_fits _ _ _ (small_op op) is
order_cell minus op (Err fault) is = tt

row_code : (kind : ℕ) (signs : List ℕ) (sign : ℕ) → kind < 4 → length signs ≤ 16 → IfSome (code_in_row kind signs sign) (λ code. code < 64)
row_code kind signs sign least few = at (position (λ s. s == sign) signs) refl
  where
    at : (o : Option ℕ) → position (λ s. s == sign) signs ≡ o → IfSome (option_map (λ k. 4 * k + kind) o) (λ code. code < 64)
    at None e = tt
    at (Some k) e = let inside = (position-Some (λ s. s == sign) signs k 0 e).0 in omega (arith, inside, few, least)

one_or : (one other : Option ℕ) → IfSome one (λ code. code < 64) → IfSome other (λ code. code < 64) → IfSome (option_or one other) (λ code. code < 64)
one_or None other first second = second
one_or (Some code) other first second = first

one_of : (b : Bool) (one other : Option ℕ) → IfSome one (λ code. code < 64) → IfSome other (λ code. code < 64) → IfSome (cond b one other) (λ code. code < 64)
one_of true one other first second = first
one_of false one other first second = second

small_code : (sign : ℕ) → IfSome (code_at sign) (λ code. code < 64)
unfolding code_at
small_code sign = one_of (sign == byte "l") (code_in_row 2 digits (byte "1")) _ (row_code 2 digits (byte "1") (omega arith) (omega arith))
    (one_of (sign == stop_sign) (Some stop_code) _ (omega arith)
    (one_or _ _ (row_code 1 letters sign (omega arith) (omega arith))
    (one_or _ _ (row_code 2 digits sign (omega arith) (omega arith)) (row_code 3 other_signs sign (omega arith) (omega arith)))))

printed_cell : (code : Option ℕ) → IfSome code (λ code. code < 64) → IfCell (ok_or (option_map printing_cell code) Misformed) IsWord
printed_cell (Some code) small = order_fits false 8 (64 * code) (omega arith) (omega (arith, small))
printed_cell None small = tt

sign_cell : (op : Op) (text : List ℕ) → IfCell (sign_operand op text) IsWord
sign_cell P text = chosen (length text == 2) (ok_or (option_map printing_cell (code_at (slice_index text 1))) Misformed) (Err Misformed) (λ e. printed_cell (code_at (slice_index text 1)) (small_code (slice_index text 1))) (λ e. tt)
sign_cell Z text = tt
sign_cell B text = tt
sign_cell Y text = tt
sign_cell R text = tt
sign_cell I text = tt
sign_cell D text = tt
sign_cell N text = tt
sign_cell M text = tt
sign_cell E text = tt
sign_cell U text = tt
sign_cell T text = tt
sign_cell H text = tt
sign_cell C text = tt
sign_cell A text = tt
sign_cell S text = tt

operand_cell : (names : List (List ℕ × ℕ)) (place : ℕ) (minus : Bool) (op : Op) (text : List ℕ) → IfCell (order_operand names place minus op text) IsWord
unfolding order_operand
operand_cell names place minus op text =
    grind (arith, chosen, sign_cell, order_cell, address_found)

scaled_cell : (minus : Bool) (scaled : ℕ) → IfCell (scaled_word minus scaled) IsWord
scaled_cell true scaled = grind (arith, chosen)
scaled_cell false scaled = chosen (nat_lt scaled (2 ^ 30)) (Ok (Cell (2 * scaled))) (Err Outside)
    (λ e. let less : scaled < 2 ^ 30 = grind (arith, nat_tests) in (omega (arith, less), omega arith)) (λ e. tt)

parts_cell : (minus : Bool) (size point : Option ℕ) → IfCell (word_of_parts minus size point) IsWord
parts_cell minus None None = tt
parts_cell minus None (Some point) = tt
parts_cell minus (Some size) None = tt
parts_cell minus (Some size) (Some point) =
    grind (arith, chosen, scaled_cell)

integer_cell : (number point : List ℕ) → IfCell (integer_word number point) IsWord
unfolding integer_word
integer_cell number point = grind (arith, parts_cell)

even_bits : (steps : ℤ) → IsWord (low_bits (pos 2 *ℤ steps))
even_bits steps =
    grind (arith, int_rem_euclid_is)

fraction_cell : (r : Result ℤ FractionFault) → IfCell (cell_of_fraction r) IsWord
fraction_cell (Ok steps) = even_bits steps
fraction_cell (Err Form) = tt
fraction_cell (Err OutOfRange) = tt

digits_cell : (text : List ℕ) (o : Option ℕ) → word_of_digits text ≡ o → IfCell (ok_or (option_map Cell o) Misformed) IsWord
digits_cell text None e = tt
digits_cell text (Some word) e = IsWord-word_of_digits text word e

place_cell : (r : Result ℕ OperandFault) → IfCell (place_meaning r) IsWord
place_cell (Ok address) = tt
place_cell (Err fault) = tt

module _ (names : List (List ℕ × ℕ)) (place : ℕ) where
  meaning_cell : (operation : Operation) (first second : Option (List ℕ)) → IfCell (meaning_of names place operation first second) IsWord
  unfolding meaning_of
  meaning_cell (Order op) None second = order_fits false _ 0 (small_op op) (omega arith)
  meaning_cell (Order op) (Some text) second = operand_cell _ _ _ op _
  meaning_cell MinusT None second = tt
  meaning_cell MinusT (Some text) second = operand_cell _ _ _ T _
  meaning_cell Word None second = tt
  meaning_cell Word (Some text) second = digits_cell _ _ refl
  meaning_cell Frac None second = tt
  meaning_cell Frac (Some text) second = fraction_cell _
  meaning_cell Int None second = tt
  meaning_cell Int (Some number) None = tt
  meaning_cell Int (Some number) (Some point) = integer_cell _ _
  meaning_cell Org None second = tt
  meaning_cell Org (Some text) second = place_cell _
  meaning_cell End None second = tt
  meaning_cell End (Some text) second = place_cell _

  line_word : (operation : Option Operation) (line : LineFields) → IfCell (option_map_or (λ o. meaning_of names place o line.first line.second) operation (Ok Nothing)) IsWord
  line_word None line = tt
  line_word (Some operation) line = meaning_cell _ _ _

-- ---- cells

with_cell : (cells : List (ℕ × ℕ)) (place : ℕ) (r : Result Meaning OperandFault) → All (λ cell. IsWord cell.1) cells → IfCell r IsWord
    → All (λ cell. IsWord cell.1) (cells ++ option_to_list (cell_at place r))
with_cell cells place (Ok (Cell word)) all is = All-push (λ cell. IsWord cell.1) cells (place, word) all is
with_cell cells place (Ok (Place address)) all is = subst (All (λ cell. IsWord cell.1)) (sym (append-nil cells)) all
with_cell cells place (Ok Nothing) all is = subst (All (λ cell. IsWord cell.1)) (sym (append-nil cells)) all
with_cell cells place (Err fault) all is = subst (All (λ cell. IsWord cell.1)) (sym (append-nil cells)) all

pub words_in : (names : List (List ℕ × ℕ)) (lines : List LineFields) → All (λ cell. IsWord cell.1) (cells_in names lines)
unfolding cells_in
words_in names [] = λ k d less. absurd (let wrong : ⊥ = omega (arith, less) in wrong)
words_in names (line ∷ earlier) =
    let place = place_of line earlier in
    with_cell (cells_in names earlier) place (line_meaning names place line) (words_in names earlier) (line_word _ _ line.operation line)

free_place : (place : ℕ) → (place < 4032) ⊎ (4053 < place) → is_loaders place ≡ false
free_place place free = ⊎_elim (λ below. grind (arith, nat_tests)) (λ above. grind (arith, nat_tests)) free

-- cells at places of their own, each a word, are those of a program
pub program_cells : (cells : List (ℕ × ℕ)) → All (λ cell. cell.0 < 4096) cells → All (λ cell. (cell.0 < 4032) ⊎ (4053 < cell.0)) cells → All (λ cell. IsWord cell.1) cells → AreProgramCells cells
program_cells [] within free are = tt
program_cells (cell ∷ cells) within free are = (
  (
    All-head (λ cell. cell.0 < 4096) cell cells within,
    free_place _ (All-head (λ cell. (cell.0 < 4032) ⊎ (4053 < cell.0)) cell cells free),
    All-head (λ cell. IsWord cell.1) cell cells are,
  ),
  program_cells cells (All-tail (λ cell. cell.0 < 4096) cell cells within) (All-tail (λ cell. (cell.0 < 4032) ⊎ (4053 < cell.0)) cell cells free) (All-tail (λ cell. IsWord cell.1) cell cells are),
)

-- ---- the start

start_found : (operation : Option Operation) (names : List (List ℕ × ℕ)) (place : ℕ) (line : LineFields) → IfSome (start_at operation (option_map_or (λ o. meaning_of names place o line.first line.second) operation (Ok Nothing))) IsAddress
unfolding meaning_of
start_found None names place line = tt
start_found (Some (Order op)) names place line = tt
start_found (Some MinusT) names place line = tt
start_found (Some Org) names place line = tt
start_found (Some Word) names place line = tt
start_found (Some Frac) names place line = tt
start_found (Some Int) names place line = tt
start_found (Some End) names place line = by_operand _
  where
    by_place : (r : Result ℕ OperandFault) → IfOk r IsAddress → IfSome (start_at (Some End) (place_meaning r)) IsAddress
    by_place (Ok address) is = is
    by_place (Err fault) is = tt

    by_operand : (first : Option (List ℕ)) → IfSome (start_at (Some End) (meaning_of names place End first line.second)) IsAddress
    by_operand None = tt
    by_operand (Some text) = by_place _ (address_found _ _ _)

one_start : (one other : Option ℕ) → IfSome one IsAddress → IfSome other IsAddress → IfSome (option_or one other) IsAddress
one_start None other first second = second
one_start (Some address) other first second = first

pub start_is : (names : List (List ℕ × ℕ)) (lines : List LineFields) → IfSome (start_in names lines) IsAddress
unfolding start_in
start_is names [] = tt
start_is names (line ∷ earlier) = grind (arith, one_start, start_found, start_is names earlier)

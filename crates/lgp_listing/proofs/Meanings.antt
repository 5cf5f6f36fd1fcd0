-- What the operations and operands of disassembled words stand for.
use Rattle.std.proofs.Common.{◌≡◌, ◌<◌, ◌+◌, ◌/◌, ◌%◌, ◌&&◌, ◌||◌, ◌==◌, ℕ, true, false, not, cond, nat_le, nat_lt, List, [], ◌∷◌, length, take, drop, Some, None, Ok, Err, ok_or, option_map, codes, refl, ap, ◌∙◌, arith}
use Rattle.std.specs.List.{list_all, position_or_len}
use Rattle.std.specs.Str.{bytes_eq}
use Rattle.std.specs.Map.{lookup}
use Rattle.std.specs.Option.{option_map_or}
use Rattle.std.proofs.lemmas.Slice.Eq.{bytes_eq-Decides}
use Rattle.std.proofs.lemmas.Bool.{cond-true, cond-false, ne_eqb, lt-ltb, leb-true, false_from_ne_true}
use Rattle.lgp_word.specs.declared.order.Op.{Op}
use Rattle.lgp_word.specs.declared.order.Op.TheVariants.{Z, B, Y, R, I, D, N, M, P, E, U, T, H, C, A, S}
use Rattle.lgp_word.specs.Address.{IsAddress}
use Rattle.lgp_word.specs.Word.{IsWord}
use Rattle.lgp_word.specs.Order.{op_letter, op_of_letter, letter_number, op_of, order_word}
use Rattle.lgp_word.specs.Digits.{digits_of, address_digits, address_text}
use Rattle.lgp_word.proofs.DigitLemmas.{word_of_digits-digits_of}
use Rattle.lgp_word.proofs.TextLemmas.{address_text-address_digits}
use Rattle.lgp_assembler.specs.declared.operations.Operation.TheVariants.{Order, MinusT, Word, End}
use Rattle.lgp_assembler.specs.declared.operands.Meaning.TheVariants.{Cell, Nothing}
use Rattle.lgp_assembler.specs.declared.operands.OperandFault.TheVariants.{Misformed, Unknown, Outside}
use Rattle.lgp_assembler.specs.declared.address_operands.Offset.{Offset}
use Rattle.lgp_assembler.specs.Operations.{operation_of}
use Rattle.lgp_assembler.specs.AddressOperands.{is_name_byte, is_name, is_sign, offset_of, base_number, in_range, address_beside, address_operand}
use Rattle.lgp_assembler.specs.Operands.{cell_of_order, sign_operand, order_operand, meaning_of}

-- ---- operations

pub order_named : (op : Op) → operation_of (op_letter op ∷ []) ≡ Some (Order op)
unfolding operation_of op_letter op_of_letter letter_number op_of
order_named Z = refl
order_named B = refl
order_named Y = refl
order_named R = refl
order_named I = refl
order_named D = refl
order_named N = refl
order_named M = refl
order_named P = refl
order_named E = refl
order_named U = refl
order_named T = refl
order_named H = refl
order_named C = refl
order_named A = refl
order_named S = refl

-- ---- an address as an operand

module _ (names : List (List ℕ × ℕ)) (place address : ℕ) (is_address : IsAddress address) where
  abbrev text : List ℕ
  text = address_digits address

  no_sign : (d : ℕ) → d < 10 → is_sign (48 + d) ≡ false
  no_sign d small =
      let plus : (48 + d == 43) ≡ false = ne_eqb (48 + d) 43 (λ e. absurd (omega arith)) in
      let minus : (48 + d == 45) ≡ false = ne_eqb (48 + d) 45 (λ e. absurd (omega arith)) in
      ap (λ b. b || 48 + d == 45) plus ∙ minus

  run_one : (d : ℕ) (rest : List ℕ) → d < 10 → position_or_len is_sign ((48 + d) ∷ rest) ≡ 1 + position_or_len is_sign rest
  run_one d rest small = ap (λ b. cond (not b) (1 + position_or_len is_sign rest) 0) (no_sign d small)

  all_base : position_or_len is_sign text ≡ 4
  all_base =
      let last = run_one (address % 64 % 10) [] (omega arith) in
      let third = run_one (address % 64 / 10) ((48 + address % 64 % 10) ∷ []) (omega arith) in
      let second = run_one (address / 64 % 10) ((48 + address % 64 / 10) ∷ (48 + address % 64 % 10) ∷ []) (omega arith) in
      let first = run_one (address / 64 / 10) ((48 + address / 64 % 10) ∷ (48 + address % 64 / 10) ∷ (48 + address % 64 % 10) ∷ []) (omega arith) in
      first ∙ ap (λ n. 1 + n) (second ∙ ap (λ n. 1 + n) (third ∙ ap (λ n. 1 + n) last))

  base_is : base_number names place text ≡ Ok address
  unfolding base_number is_name
  base_is =
      let star = codes "*" in
      let first = 48 + address / 64 / 10 in
      let no_star : bytes_eq text star ≡ false = false_from_ne_true _ (λ e. absurd (omega (arith, ap length ((bytes_eq-Decides text star).0 e)))) in
      let no_letter : nat_le 97 first ≡ false = false_from_ne_true _ (λ e. absurd (omega (arith, leb-true 97 first e))) in
      let no_name : is_name text ≡ false = ap (λ b. b && nat_le first 122 && list_all is_name_byte text && nat_le (length text) 8) no_letter in
      cond-false (bytes_eq text star) (Ok place) (cond (is_name text) (ok_or (lookup (bytes_eq text) names) Unknown) (ok_or (address_text text) Misformed)) no_star
      ∙ cond-false (is_name text) (ok_or (lookup (bytes_eq text) names) Unknown) (ok_or (address_text text) Misformed) no_name
      ∙ ap (λ o. ok_or o Misformed) (address_text-address_digits _ is_address)

  pub address_means : address_operand names place text ≡ Ok address
  unfolding address_operand offset_of
  address_means =
      let none : Offset = record { minus = false; number = 0 } in
      let same : address + 0 ≡ address = omega arith in
      ap (λ n. option_map_or (address_beside (base_number names place (take n text))) (offset_of (drop n text)) (Err Misformed)) all_base
      ∙ ap (λ base. address_beside base none) base_is
      ∙ ap in_range same
      ∙ cond-true (nat_lt address 4096) (Ok address) (Err Outside) (lt-ltb address 4096 is_address)

  pub order_means : (op : Op) → meaning_of names place (Order op) (Some text) None ≡ Ok (Cell (order_word (record { minus = false; op = op; address = address })))
  unfolding meaning_of order_operand
  order_means op =
      let first : (48 + address / 64 / 10 == 61) ≡ false = ne_eqb (48 + address / 64 / 10) 61 (λ e. absurd (omega arith)) in
      cond-false (48 + address / 64 / 10 == 61) (sign_operand op text) (cell_of_order false op (address_operand names place text)) first
      ∙ ap (cell_of_order false op) address_means

  pub minus_means : meaning_of names place MinusT (Some text) None ≡ Ok (Cell (order_word (record { minus = true; op = T; address = address })))
  unfolding meaning_of order_operand
  minus_means =
      let first : (48 + address / 64 / 10 == 61) ≡ false = ne_eqb (48 + address / 64 / 10) 61 (λ e. absurd (omega arith)) in
      cond-false (48 + address / 64 / 10 == 61) (sign_operand T text) (cell_of_order true T (address_operand names place text)) first
      ∙ ap (cell_of_order true T) address_means

pub word_means : (names : List (List ℕ × ℕ)) (place word : ℕ) → IsWord word → meaning_of names place Word (Some (digits_of word)) None ≡ Ok (Cell word)
unfolding meaning_of
word_means names place word is_word = ap (λ o. ok_or (option_map Cell o) Misformed) (word_of_digits-digits_of word is_word)

pub end_means : (names : List (List ℕ × ℕ)) (place : ℕ) → meaning_of names place End None None ≡ Ok Nothing
unfolding meaning_of
end_means names place = refl

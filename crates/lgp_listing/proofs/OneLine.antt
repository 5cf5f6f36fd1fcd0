-- The source of a disassembled word.
use Rattle.std.proofs.Common.{◌≡◌, ◌≢◌, ◌<◌, ◌≤◌, ◌+◌, ◌/◌, ◌%◌, ◌++◌, ◌&&◌, ◌||◌, ◌==◌, ℕ, Bool, true, false, not, List, [], ◌∷◌, codes, Option, Some, None, refl, sym, ap, subst, ◌∙◌, arith, nat_le, nat_lt, map}
use Rattle.std.specs.Option.{option_map_or}
use Rattle.std.proofs.lemmas.Bool.{and_parts, eqb-true, leb-true, eq-eqb, true≢false}
use Rattle.std.proofs.lemmas.Option.{cond_some}
use Rattle.lgp_word.specs.declared.order.Op.{Op}
use Rattle.lgp_word.specs.declared.order.Op.TheVariants.{Z, B, Y, R, I, D, N, M, P, E, U, T, H, C, A, S}
use Rattle.lgp_word.specs.Address.{IsAddress}
use Rattle.lgp_word.specs.Word.{IsWord}
use Rattle.lgp_word.specs.Order.{OrderParts, op_letter, order_word, parts_of, takes_minus, decoded}
use Rattle.lgp_word.specs.Digits.{digit_byte, digits_of, four_digits, address_digits}
use Rattle.lgp_source.specs.Source.{text_of, line_of, numbered_lines, lines_of}
use Rattle.lgp_source.proofs.PlainLines.{IsPlain, ArePlain, AreVisible, plain_visible, plain_append, piece_first, text_whole, statement_line}
use Rattle.lgp_assembler.specs.declared.operations.Operation.{Operation}
use Rattle.lgp_assembler.specs.declared.operations.Operation.TheVariants.{Order, MinusT, Word, End}
use Rattle.lgp_assembler.specs.declared.operands.Meaning.TheVariants.{Cell}
use Rattle.std.proofs.Common.{Ok}
use Rattle.lgp_assembler.specs.Operations.{least_operands, operation_of}
use Rattle.lgp_assembler.specs.Operands.{meaning_of}
use Rattle.lgp_assembler.specs.Fields.{LineFields, fields_of}
use Rattle.lgp_assembler.specs.Places.{next_place, has_ended, names_of, is_taken}
use Rattle.lgp_assembler.specs.Faults.{fault_of, faults_in, missing_end}
use Rattle.lgp_assembler.specs.Parts.{ImageParts}
use Rattle.lgp_assembler.specs.declared.refusal.Fault.{Fault}
use Rattle.lgp_assembler.specs.Image.{passed_lines, all_lines, cells_in, start_in}
use Rattle.lgp_listing.specs.Disassembly.{order_text, disassembly}
use Rattle.lgp_listing.specs.Laws.{one_line, AssemblesTo}
use Rattle.lgp_listing.proofs.Meanings.{order_named, order_means, minus_means, word_means, end_means}

-- ---- the bytes of a disassembled word

abbrev IsVisible : ℕ → Type 0
IsVisible b = IsPlain b × (b ≢ 32)

decimal_visible : (d : ℕ) → d < 10 → IsVisible (48 + d)
decimal_visible d small = ((omega arith, omega arith, λ e. absurd (omega arith)), λ e. absurd (omega arith))

address_visible : (address : ℕ) → IsAddress address → AreVisible (address_digits address)
address_visible address is = (
  decimal_visible _ (omega arith),
  (
    decimal_visible _ (omega arith),
    (decimal_visible _ (omega arith), (decimal_visible _ (omega arith), tt)),
  ),
)

visible : (b : ℕ) → (nat_le 33 b && nat_le b 126 && not (b == 59)) ≡ true → IsVisible b
visible b e =
    let last = and_parts (nat_le 33 b && nat_le b 126) (not (b == 59)) e in
    let first = and_parts (nat_le 33 b) (nat_le b 126) last.0 in
    let low : 33 ≤ b = leb-true 33 b first.0 in
    let high : b ≤ 126 = leb-true b 126 first.1 in
    ((omega arith, high, λ same. true≢false (sym last.1 ∙ ap not (eq-eqb b 59 same))), λ same. absurd (omega arith))

digit_visible : (value : ℕ) → value < 16 → IsVisible (digit_byte value)
unfolding digit_byte
digit_visible value small = grind arith

letter_visible : (op : Op) → IsVisible (op_letter op)
unfolding op_letter
letter_visible Z = visible _ refl
letter_visible B = visible _ refl
letter_visible Y = visible _ refl
letter_visible R = visible _ refl
letter_visible I = visible _ refl
letter_visible D = visible _ refl
letter_visible N = visible _ refl
letter_visible M = visible _ refl
letter_visible P = visible _ refl
letter_visible E = visible _ refl
letter_visible U = visible _ refl
letter_visible T = visible _ refl
letter_visible H = visible _ refl
letter_visible C = visible _ refl
letter_visible A = visible _ refl
letter_visible S = visible _ refl

digits_visible : (word : ℕ) → AreVisible (digits_of word)
unfolding digits_of four_digits
digits_visible word =
    let digit = λ (n : ℕ). digit_visible (n % 16) (omega arith) in (
      digit _,
      (
        digit _,
        (
          digit _,
          (
            digit _,
            (digit _, (digit _, (digit _, (digit _, tt)))),
          ),
        ),
      ),
    )

-- ---- the lines of the source

-- the line of an operation and an operand, and an end line, as the assembler sees them
abbrev fields_with : Option Operation → List ℕ → LineFields
fields_with operation operand = record { number = 1; is_bad = false; label = None; has_operation = true; operation = operation; first = Some operand; second = None; count = 1 }

abbrev line_fields : Operation → List ℕ → LineFields
line_fields operation operand = fields_with (Some operation) operand

abbrev end_fields : LineFields
end_fields = record { number = 2; is_bad = false; label = None; has_operation = true; operation = Some End; first = None; second = None; count = 0 }

end_line : fields_of (line_of 2 (text_of (codes " end"))) ≡ end_fields
unfolding fields_of operation_of
end_line = refl

module _ (n o : ℕ) (name operand : List ℕ) (operation : Operation) (named : operation_of (n ∷ name) ≡ Some operation)
    (is_name : AreVisible (n ∷ name)) (is_operand : AreVisible (o ∷ operand)) where
  abbrev text : List ℕ
  text = (n ∷ name) ++ 32 ∷ (o ∷ operand)

  plain_text : ArePlain (32 ∷ text)
  plain_text = (
    (omega arith, omega arith, λ e. absurd (omega arith)),
    plain_append (n ∷ name) (32 ∷ (o ∷ operand)) (plain_visible (n ∷ name) is_name)
        ((omega arith, omega arith, λ e. absurd (omega arith)), plain_visible (o ∷ operand) is_operand),
  )

  two_lines : lines_of (one_line text) ≡ line_of 1 (32 ∷ text) ∷ line_of 2 (text_of (codes " end")) ∷ []
  unfolding lines_of numbered_lines
  two_lines =
      ap (numbered_lines 1) (piece_first (32 ∷ text) (codes " end") plain_text)
      ∙ ap (λ t. line_of 1 t ∷ line_of 2 (text_of (codes " end")) ∷ []) (text_whole (32 ∷ text) plain_text)

  first_line : fields_of (line_of 1 (32 ∷ text)) ≡ line_fields operation (o ∷ operand)
  unfolding fields_of
  first_line =
      let statement = statement_line 1 n o _ _ is_name is_operand in
      ap fields_of statement.line_is
      ∙ ap (λ t. fields_with (operation_of t) statement.second.text) statement.name_is
      ∙ ap (fields_with (operation_of (n ∷ name))) statement.operand_is
      ∙ ap (λ op. fields_with op (o ∷ operand)) named

  pub both_lines : all_lines (one_line text) ≡ end_fields ∷ line_fields operation (o ∷ operand) ∷ []
  unfolding all_lines
  both_lines =
      ap (λ ls. passed_lines [] (map fields_of ls)) two_lines
      ∙ ap (λ f. f ∷ fields_of (line_of 1 (32 ∷ text)) ∷ []) end_line
      ∙ ap (λ f. end_fields ∷ f ∷ []) first_line

-- ---- what the two lines give

abbrev given : List LineFields → ImageParts
given lines = record { cells = cells_in (names_of lines) lines; start = start_in (names_of lines) lines; symbols = names_of lines }

abbrev reported : List LineFields → List Fault
reported lines = faults_in (names_of lines) lines ++ missing_end lines

-- the two lines have no fault and one cell
pub record GivesOne (operation : Operation) (operand : List ℕ) (word : ℕ) : Type 0 where
  faultless : reported (end_fields ∷ line_fields operation operand ∷ []) ≡ []
  image : given (end_fields ∷ line_fields operation operand ∷ []) ≡ record { cells = (0, word) ∷ []; start = None; symbols = [] }

-- an order takes one operand
order_needs : (op : Op) → nat_lt 1 (least_operands (Order op)) ≡ false
order_needs Z = refl
order_needs B = refl
order_needs Y = refl
order_needs R = refl
order_needs I = refl
order_needs D = refl
order_needs N = refl
order_needs M = refl
order_needs P = refl
order_needs E = refl
order_needs U = refl
order_needs T = refl
order_needs H = refl
order_needs C = refl
order_needs A = refl
order_needs S = refl

order_gives : (op : Op) (operand : List ℕ) (word : ℕ) → meaning_of [] 0 (Order op) (Some operand) None ≡ Ok (Cell word) → GivesOne (Order op) operand word
unfolding faults_in fault_of next_place has_ended names_of is_taken cells_in start_in
order_gives op operand word means = record {
  faultless = rw (order_needs op, means, end_means [] 1) refl;
  image = rw (means, end_means [] 1) refl;
}

minus_gives : (operand : List ℕ) (word : ℕ) → meaning_of [] 0 MinusT (Some operand) None ≡ Ok (Cell word) → GivesOne MinusT operand word
unfolding faults_in fault_of next_place has_ended names_of is_taken cells_in start_in
minus_gives operand word means = record {
  faultless = rw (means, end_means [] 1) refl;
  image = rw (means, end_means [] 1) refl;
}

word_gives : (operand : List ℕ) (word : ℕ) → meaning_of [] 0 Word (Some operand) None ≡ Ok (Cell word) → GivesOne Word operand word
unfolding faults_in fault_of next_place has_ended names_of is_taken cells_in start_in
word_gives operand word means = record {
  faultless = rw (means, end_means [] 1) refl;
  image = rw (means, end_means [] 1) refl;
}

assembles : (source : List ℕ) (operation : Operation) (operand : List ℕ) (word : ℕ) → all_lines source ≡ end_fields ∷ line_fields operation operand ∷ [] → GivesOne operation operand word → AssemblesTo source word
assembles source operation operand word lines gives = record {
  faultless = ap reported lines ∙ gives.faultless;
  image = ap given lines ∙ gives.image;
}

-- ---- each word

word_named : operation_of (codes "word") ≡ Some Word
unfolding operation_of
word_named = refl

minus_named : operation_of (codes "-t") ≡ Some MinusT
unfolding operation_of
minus_named = refl

digits_assemble : (word : ℕ) → IsWord word → AssemblesTo (one_line (codes "word " ++ digits_of word)) word
unfolding digits_of four_digits
digits_assemble word is_word =
    let high = word / 65536 in
    let low = word % 65536 in
    let first = digit_byte (high / 4096 % 16) in
    let after = digit_byte (high / 256 % 16) ∷ digit_byte (high / 16 % 16) ∷ digit_byte (high % 16) ∷ four_digits low in
    let name = codes "ord" in
    let named : AreVisible (119 ∷ name) = (visible _ refl, (visible _ refl, (visible _ refl, (visible _ refl, tt)))) in
    assembles (one_line (codes "word " ++ digits_of word)) Word (digits_of word) word
    (both_lines 119 first name after Word (word_named) named (digits_visible word))
    (word_gives (digits_of word) word (word_means [] 0 word is_word))

minus_assembles : (address : ℕ) → IsAddress address
    → let order : OrderParts = record { minus = true; op = T; address = address } in AssemblesTo (one_line (order_text order)) (order_word order)
unfolding op_letter
minus_assembles address is_address =
    let first = 48 + address / 64 / 10 in
    let after = (48 + address / 64 % 10) ∷ (48 + address % 64 / 10) ∷ (48 + address % 64 % 10) ∷ [] in
    assembles _ _ _ _
    (both_lines 45 first (116 ∷ []) after MinusT minus_named (visible _ refl, (visible _ refl, tt)) (address_visible _ is_address))
    (minus_gives _ _ (minus_means [] 0 address is_address))

order_assembles : (minus : Bool) (op : Op) (address : ℕ) → IsAddress address → (takes_minus op || not minus) ≡ true
    → let order : OrderParts = record { minus = minus; op = op; address = address } in AssemblesTo (one_line (order_text order)) (order_word order)
order_assembles false op address is_address allowed =
    let order : OrderParts = record { minus = false; op = op; address = address } in
    let first = 48 + address / 64 / 10 in
    let after = (48 + address / 64 % 10) ∷ (48 + address % 64 / 10) ∷ (48 + address % 64 % 10) ∷ [] in
    assembles _ _ _ _
    (both_lines (op_letter op) first [] after (Order op) (order_named op) (letter_visible op, tt) (address_visible _ is_address))
    (order_gives op (address_digits address) (order_word order) (order_means [] 0 address is_address op))
order_assembles true T address is_address allowed = minus_assembles _ is_address
order_assembles true Z address is_address allowed = absurd (true≢false (sym allowed))
order_assembles true B address is_address allowed = absurd (true≢false (sym allowed))
order_assembles true Y address is_address allowed = absurd (true≢false (sym allowed))
order_assembles true R address is_address allowed = absurd (true≢false (sym allowed))
order_assembles true I address is_address allowed = absurd (true≢false (sym allowed))
order_assembles true D address is_address allowed = absurd (true≢false (sym allowed))
order_assembles true N address is_address allowed = absurd (true≢false (sym allowed))
order_assembles true M address is_address allowed = absurd (true≢false (sym allowed))
order_assembles true P address is_address allowed = absurd (true≢false (sym allowed))
order_assembles true E address is_address allowed = absurd (true≢false (sym allowed))
order_assembles true U address is_address allowed = absurd (true≢false (sym allowed))
order_assembles true H address is_address allowed = absurd (true≢false (sym allowed))
order_assembles true C address is_address allowed = absurd (true≢false (sym allowed))
order_assembles true A address is_address allowed = absurd (true≢false (sym allowed))
order_assembles true S address is_address allowed = absurd (true≢false (sym allowed))

pub each_word : (word : ℕ) → IsWord word → AssemblesTo (one_line (disassembly word)) word
unfolding disassembly
each_word word is_word = pick (decoded word) refl
  where
    pick : (order : Option OrderParts) → decoded word ≡ order → AssemblesTo (one_line (disassembly word)) word
    pick None none = subst (λ t. AssemblesTo (one_line t) word) (sym (ap (λ o. option_map_or order_text o (codes "word " ++ digits_of word)) none)) (digits_assemble word is_word)
    pick (Some order) some =
        let parts = parts_of word in
        let kept = cond_some _ _ _ some in
        let test = and_parts (order_word parts == word) (takes_minus parts.op || not parts.minus) kept.0 in
        let word_is : order_word parts ≡ word = eqb-true (order_word parts) word test.0 in
        let text_is : disassembly word ≡ order_text parts = ap (λ o. option_map_or order_text o (codes "word " ++ digits_of word)) (some ∙ ap Some (sym kept.1)) in
        subst (λ t. AssemblesTo (one_line t) word) (sym text_is)
        (subst (AssemblesTo (one_line (order_text parts))) word_is (order_assembles _ _ _ (omega arith) test.1))

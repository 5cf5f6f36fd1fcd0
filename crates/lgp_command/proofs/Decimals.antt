-- A number's digits are read as the number, and have neither spaces nor line feeds.
use Rattle.std.proofs.Common.{◌≡◌, ℕ, zero, suc, ◌+◌, ◌/◌, ◌%◌, ◌^◌, ◌<◌, ◌==◌, Bool, true, false, cond, Some, List, [], ◌∷◌, decimal, fold, refl, ◌∙◌, arith}
use Rattle.std.specs.Char.{is_ascii_digit}
use Rattle.std.specs.Fmt.{digits, digits_onto, digit_glyph}
use Rattle.std.specs.List.{list_all}
use Rattle.std.proofs.lemmas.Bool.{and_from}
use Rattle.std.proofs.lemmas.Bool.Decides.{nat_tests}
use Rattle.std.proofs.lemmas.Fmt.{decimal_by_steps, decimal_nonempty, length-decimal-le}
use Rattle.std.proofs.lemmas.List.Folds.{list_all-append}
use Rattle.std.proofs.lemmas.List.Sums.{fold-append}
use Rattle.lgp_word.specs.Decimal.{decimal_number, decimal_of, is_decimal, with_digit}
use Rattle.lgp_stream.specs.Language.{is_line_feed}
use Rattle.lgp_stream.specs.LineWords.{is_space}
use Rattle.lgp_stream.specs.Transcript.{IsLine}
use Rattle.lgp_command.specs.Command.{number_at}
use Rattle.lgp_command.specs.Operands.{IsCount}
use Rattle.lgp_command.proofs.Words.{IsVisible, IsWordText}

value_of : (n : ℕ) → n < 2 ^ 64 → decimal_of (decimal n) ≡ n
unfolding decimal_of
value_of n small =
    decimal_by_steps (λ k ds. fold with_digit 0 ds ≡ k)
    (λ k less. omega arith)
    (λ k ds large so. fold-append with_digit 0 ds ((48 + k % 10) ∷ []) ∙ omega (arith, so)) n small

digit : (d : ℕ) → d < 10 → is_ascii_digit (48 + d) ≡ true
digit d small = grind (arith, and_from)

one_digit : (d : ℕ) → d < 10 → list_all is_ascii_digit ((48 + d) ∷ []) ≡ true
one_digit d small = rw (digit d small) refl

are_digits : (n : ℕ) → n < 2 ^ 64 → list_all is_ascii_digit (decimal n) ≡ true
are_digits n small =
    decimal_by_steps (λ k ds. list_all is_ascii_digit ds ≡ true)
    (λ k less. one_digit k less)
    (λ k ds large so. list_all-append is_ascii_digit ds ((48 + k % 10) ∷ []) ∙ (rw (so, one_digit (k % 10) (omega arith)) refl)) n small

pub number_at-decimal : (n : ℕ) → IsCount n → number_at (decimal n) ≡ Some n
unfolding number_at decimal_number is_decimal
number_at-decimal n small =
    let few = length-decimal-le 10 n (omega arith) small (omega arith) in
    let some = decimal_nonempty n (omega arith) in
    let all = are_digits n (omega arith) in
    let value = value_of n (omega arith) in
    grind (arith, nat_tests)

-- each digit of a number, of any size
decimal_glyph : (d : ℕ) → digit_glyph false (d % 10) ≡ 48 + d % 10
decimal_glyph d = grind (arith, nat_tests)

visible_glyph : (d : ℕ) → is_space (digit_glyph false (d % 10)) ≡ false
visible_glyph d = rw (decimal_glyph d) (grind (arith, nat_tests))

free_glyph : (d : ℕ) → is_line_feed (digit_glyph false (d % 10)) ≡ false
free_glyph d = rw (decimal_glyph d) (grind (arith, nat_tests))

either_visible : (test : Bool) (one other : List ℕ) → IsVisible one → IsVisible other → IsVisible (cond test one other)
either_visible true one other first second = first
either_visible false one other first second = second

visible_onto : (k n : ℕ) (front : List ℕ) → IsVisible front → IsVisible (digits_onto k 10 false n front)
visible_onto zero n front seen = seen
visible_onto (suc k) n front seen =
    let more = digit_glyph false (n % 10) ∷ front in
    either_visible (n / 10 == 0) more _ (visible_glyph n, seen) (visible_onto k (n / 10) more (visible_glyph n, seen))

visible_decimal : (n : ℕ) → IsVisible (decimal n)
unfolding digits
visible_decimal n = visible_onto 64 n [] tt

pub decimal_is_word : (n : ℕ) → IsCount n → IsWordText (decimal n)
decimal_is_word n small = record { seen = visible_decimal n; some = decimal_nonempty n (omega arith) }

either_line : (test : Bool) (one other : List ℕ) → IsLine one → IsLine other → IsLine (cond test one other)
either_line true one other first second = first
either_line false one other first second = second

line_onto : (k n : ℕ) (front : List ℕ) → IsLine front → IsLine (digits_onto k 10 false n front)
line_onto zero n front free = free
line_onto (suc k) n front free =
    let more = digit_glyph false (n % 10) ∷ front in
    either_line (n / 10 == 0) more _ (free_glyph n, free) (line_onto k (n / 10) more (free_glyph n, free))

pub decimal_is_line : (n : ℕ) → IsLine (decimal n)
unfolding digits
decimal_is_line n = line_onto 64 n [] tt

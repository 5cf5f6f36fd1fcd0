-- Lines that end at their line feeds, and how deposits and shown words are read.
use Rattle.std.proofs.Common.{◌≡◌, ◌≢◌, ◌<◌, ◌+◌, ◌%◌, ◌/◌, ◌&&◌, not, eqb, ℕ, Bool, true, List, [], ◌∷◌, ◌++◌, length, take, drop, map, Some, refl, sym, ap, subst, ◌∙◌, arith, codes, rules}
use Rattle.std.specs.Char.{to_ascii_lowercase, to_ascii_uppercase}
use Rattle.std.specs.Option.{option_or}
use Rattle.std.proofs.lemmas.Bool.{and_parts, cond-false, eqb-true, ne_eqb}
use Rattle.std.proofs.lemmas.List.{append_assoc, take_at, drop_at, length-append, map-append}
use Rattle.bstr.specs.Text.{line_len, lines_of, without_terminator}
use Rattle.bstr.proofs.lemmas.LineLemmas.{lines-step}
use Rattle.lgp_flexo.proofs.Writing.{all_below, all_below-at}
use Rattle.lgp_word.specs.Address.{IsAddress}
use Rattle.lgp_word.specs.Word.{IsWord}
use Rattle.lgp_word.specs.Digits.{digit_byte, digits_of, four_digits, address_digits, address_text, word_of_digits}
use Rattle.lgp_word.proofs.DigitLemmas.{word_of_digits-digits_of}
use Rattle.lgp_word.proofs.TextLemmas.{address_text-address_digits}
use Rattle.lgp_exchange.specs.Deposits.{deposit_line, shown_line}
use Rattle.lgp_exchange.specs.Examined.{both, cell_in, cell_of, given_cell, shown_cell}

-- no byte of these ends a line
abbrev pub HasNoFeed : List ℕ → Type 0
HasNoFeed [] = Unit {0}
HasNoFeed (b ∷ bytes) = (b ≢ 10) × HasNoFeed bytes

len_to_feed : (bytes rest : List ℕ) → HasNoFeed bytes → line_len (bytes ++ 10 ∷ rest) ≡ length bytes + 1
unfolding line_len
len_to_feed [] rest none = refl
len_to_feed (b ∷ bytes) rest none = grind (arith, cond-false, len_to_feed bytes rest none.1)

-- the lines of a text that begins with a line
line_first : (bytes rest : List ℕ) → HasNoFeed bytes → lines_of ((bytes ++ 10 ∷ []) ++ rest) ≡ (bytes ++ 10 ∷ []) ∷ lines_of rest
line_first bytes rest none =
    let line = bytes ++ 10 ∷ [] in
    let text = line ++ rest in
    let whole : text ≡ bytes ++ 10 ∷ rest = append_assoc bytes (10 ∷ []) rest in
    let size : length line ≡ length bytes + 1 = length-append bytes (10 ∷ []) in
    let len : line_len text ≡ length line = ap line_len whole ∙ len_to_feed bytes rest none ∙ sym size in
    let some : 0 < length text = omega (arith, length-append line rest) in
    lines-step text some ∙ ap (λ n. take n text ∷ lines_of (drop n text)) len
    ∙ ap (λ t. t ∷ lines_of (drop (length line) (line ++ rest))) (take_at line rest (length line) refl)
    ∙ ap (λ t. line ∷ lines_of t) (drop_at line rest (length line) refl)

-- ---- digits, small and capital, are read as the same, and end no line

abbrev is_digit_so : ℕ → Bool
is_digit_so digit =
    eqb (to_ascii_lowercase digit) digit && eqb (to_ascii_lowercase (to_ascii_uppercase digit)) digit
    && (not (eqb digit 10) && not (eqb digit 13)) && (not (eqb (to_ascii_uppercase digit) 10) && not (eqb (to_ascii_uppercase digit) 13))

all_digits_so : all_below (λ value. is_digit_so (digit_byte value)) 16 ≡ true
unfolding digit_byte
all_digits_so = refl

record IsDigitSo (digit : ℕ) : Type 0 where
  small : to_ascii_lowercase digit ≡ digit
  capital : to_ascii_lowercase (to_ascii_uppercase digit) ≡ digit
  no_feed : digit ≢ 10
  no_return : digit ≢ 13
  no_capital_feed : to_ascii_uppercase digit ≢ 10
  no_capital_return : to_ascii_uppercase digit ≢ 13

is_other : (a b : ℕ) → not (eqb a b) ≡ true → a ≢ b
is_other a b h = λ e. grind arith

digit_so : (number : ℕ) → IsDigitSo (digit_byte (number % 16))
digit_so number =
    let digit = digit_byte (number % 16) in
    let all : is_digit_so digit ≡ true = all_below-at (λ value. is_digit_so (digit_byte value)) 16 (number % 16) all_digits_so (omega arith) in
    let capital = and_parts (eqb (to_ascii_lowercase digit) digit && eqb (to_ascii_lowercase (to_ascii_uppercase digit)) digit && (not (eqb digit 10) && not (eqb digit 13))) (not (eqb (to_ascii_uppercase digit) 10) && not (eqb (to_ascii_uppercase digit) 13)) all in
    let small = and_parts (eqb (to_ascii_lowercase digit) digit && eqb (to_ascii_lowercase (to_ascii_uppercase digit)) digit) (not (eqb digit 10) && not (eqb digit 13)) capital.0 in
    let lower = and_parts (eqb (to_ascii_lowercase digit) digit) (eqb (to_ascii_lowercase (to_ascii_uppercase digit)) digit) small.0 in
    let ends = and_parts (not (eqb digit 10)) (not (eqb digit 13)) small.1 in
    let capital_ends = and_parts (not (eqb (to_ascii_uppercase digit) 10)) (not (eqb (to_ascii_uppercase digit) 13)) capital.1 in
    record {
      small = eqb-true (to_ascii_lowercase digit) digit lower.0;
      capital = eqb-true (to_ascii_lowercase (to_ascii_uppercase digit)) digit lower.1;
      no_feed = is_other digit 10 ends.0;
      no_return = is_other digit 13 ends.1;
      no_capital_feed = is_other (to_ascii_uppercase digit) 10 capital_ends.0;
      no_capital_return = is_other (to_ascii_uppercase digit) 13 capital_ends.1;
    }

small_digit : (number : ℕ) → to_ascii_lowercase (digit_byte (number % 16)) ≡ digit_byte (number % 16)
small_digit number = (digit_so number).small

capital_digit : (number : ℕ) → to_ascii_lowercase (to_ascii_uppercase (digit_byte (number % 16))) ≡ digit_byte (number % 16)
capital_digit number = (digit_so number).capital

small_four : (number : ℕ) → map to_ascii_lowercase (four_digits number) ≡ four_digits number
unfolding four_digits
small_four number = grind (arith, small_digit)

capital_four : (number : ℕ) → map to_ascii_lowercase (map to_ascii_uppercase (four_digits number)) ≡ four_digits number
unfolding four_digits
capital_four number = grind (arith, capital_digit)

small_digits : (word : ℕ) → map to_ascii_lowercase (digits_of word) ≡ digits_of word
unfolding digits_of
small_digits word =
    map-append to_ascii_lowercase (four_digits (word / 65536)) (four_digits (word % 65536))
    ∙ ap (λ t. t ++ map to_ascii_lowercase (four_digits (word % 65536))) (small_four (word / 65536))
    ∙ ap (λ t. four_digits (word / 65536) ++ t) (small_four (word % 65536))

capital_digits : (word : ℕ) → map to_ascii_lowercase (map to_ascii_uppercase (digits_of word)) ≡ digits_of word
unfolding digits_of
capital_digits word =
    ap (map to_ascii_lowercase) (map-append to_ascii_uppercase (four_digits (word / 65536)) (four_digits (word % 65536)))
    ∙ map-append to_ascii_lowercase (map to_ascii_uppercase (four_digits (word / 65536))) (map to_ascii_uppercase (four_digits (word % 65536)))
    ∙ ap (λ t. t ++ map to_ascii_lowercase (map to_ascii_uppercase (four_digits (word % 65536)))) (capital_four (word / 65536))
    ∙ ap (λ t. four_digits (word / 65536) ++ t) (capital_four (word % 65536))

-- an address and small digits are read as the address and the word
cell_read : (address word : ℕ) (digits : List ℕ) → IsAddress address → IsWord word → map to_ascii_lowercase digits ≡ digits_of word
    → cell_of (address_digits address) digits ≡ Some (address, word)
cell_read address word digits is_address is_word e =
    ap (both (address_text (address_digits address))) (ap word_of_digits e ∙ word_of_digits-digits_of word is_word)
    ∙ ap (λ a. both a (Some word)) (address_text-address_digits address is_address)

-- ---- a line of a text, and what it is read as

pub record IsLineRead (line : List ℕ) (address word : ℕ) : Type 0 where
  pub first : (rest : List ℕ) → lines_of (line ++ rest) ≡ line ∷ lines_of rest
  pub cell : cell_in (without_terminator line) ≡ Some (address, word)

-- a line of bytes that end no line, the last of them no carriage return
line_read : (bytes : List ℕ) (address word : ℕ) → HasNoFeed bytes → without_terminator (bytes ++ 10 ∷ []) ≡ bytes
    → cell_in bytes ≡ Some (address, word) → IsLineRead (bytes ++ 10 ∷ []) address word
line_read bytes address word none ends read = record {
  first = λ rest. line_first bytes rest none;
  cell = ap cell_in ends ∙ read;
}

HasNoFeed-append : (bytes more : List ℕ) → HasNoFeed bytes → HasNoFeed more → HasNoFeed (bytes ++ more)
HasNoFeed-append [] more none none_more = none_more
HasNoFeed-append (b ∷ bytes) more none none_more = (none.0, HasNoFeed-append bytes more none.1 none_more)

address_no_feed : (address : ℕ) → HasNoFeed (address_digits address)
address_no_feed address = (λ e. absurd (omega arith), (λ e. absurd (omega arith), (λ e. absurd (omega arith), (λ e. absurd (omega arith), tt))))

four_no_feed : (number : ℕ) → HasNoFeed (four_digits number)
unfolding four_digits
four_no_feed number =
    ((digit_so (number / 4096)).no_feed, ((digit_so (number / 256)).no_feed, ((digit_so (number / 16)).no_feed, ((digit_so number).no_feed, tt))))

capital_four_no_feed : (number : ℕ) → HasNoFeed (map to_ascii_uppercase (four_digits number))
unfolding four_digits
capital_four_no_feed number =
    ((digit_so (number / 4096)).no_capital_feed, ((digit_so (number / 256)).no_capital_feed, ((digit_so (number / 16)).no_capital_feed, ((digit_so number).no_capital_feed, tt))))

digits_no_feed : (word : ℕ) → HasNoFeed (digits_of word)
unfolding digits_of
digits_no_feed word = HasNoFeed-append (four_digits (word / 65536)) (four_digits (word % 65536)) (four_no_feed (word / 65536)) (four_no_feed (word % 65536))

capital_no_feed : (word : ℕ) → HasNoFeed (map to_ascii_uppercase (digits_of word))
unfolding digits_of
capital_no_feed word =
    subst HasNoFeed (sym (map-append to_ascii_uppercase (four_digits (word / 65536)) (four_digits (word % 65536))))
    (HasNoFeed-append (map to_ascii_uppercase (four_digits (word / 65536))) (map to_ascii_uppercase (four_digits (word % 65536))) (capital_four_no_feed (word / 65536)) (capital_four_no_feed (word % 65536)))

-- ---- deposits

abbrev deposit_front : ℕ → ℕ → List ℕ
deposit_front address word = codes "d -lt " ++ address_digits address ++ codes " " ++ digits_of word

deposit_no_feed : (address word : ℕ) → HasNoFeed (deposit_front address word)
deposit_no_feed address word =
    HasNoFeed-append (codes "d -lt ") (address_digits address ++ codes " " ++ digits_of word) (search rules)
    (HasNoFeed-append (address_digits address) (codes " " ++ digits_of word) (address_no_feed address) ((search rules), digits_no_feed word))

deposit_cell : (address word : ℕ) → IsAddress address → IsWord word → cell_in (deposit_front address word) ≡ Some (address, word)
unfolding cell_in shown_cell given_cell digits_of four_digits
deposit_cell address word is_address is_word = cell_read address word (digits_of word) is_address is_word (small_digits word)

deposit_ends : (address word : ℕ) → without_terminator (deposit_front address word ++ 10 ∷ []) ≡ deposit_front address word
unfolding digits_of four_digits
deposit_ends address word = cond-false (eqb (digit_byte (word % 65536 % 16)) 13) _ (deposit_front address word) (ne_eqb (digit_byte (word % 65536 % 16)) 13 (digit_so (word % 65536)).no_return)

deposit_is : (address word : ℕ) → deposit_front address word ++ 10 ∷ [] ≡ deposit_line address word
unfolding digits_of four_digits
deposit_is address word = refl

pub deposit_read : (address word : ℕ) → IsAddress address → IsWord word → IsLineRead (deposit_line address word) address word
deposit_read address word is_address is_word =
    subst (λ line. IsLineRead line address word) (deposit_is address word)
    (line_read (deposit_front address word) address word (deposit_no_feed address word) (deposit_ends address word) (deposit_cell address word is_address is_word))

-- ---- shown words

abbrev shown_front : ℕ → ℕ → List ℕ
shown_front address word = address_digits address ++ codes ":\t" ++ map to_ascii_uppercase (digits_of word)

shown_no_feed : (address word : ℕ) → HasNoFeed (shown_front address word)
shown_no_feed address word =
    HasNoFeed-append (address_digits address) (codes ":\t" ++ map to_ascii_uppercase (digits_of word)) (address_no_feed address)
    (HasNoFeed-append (codes ":\t") (map to_ascii_uppercase (digits_of word)) (search rules) (capital_no_feed word))

shown_read_cell : (address word : ℕ) → IsAddress address → IsWord word → cell_in (shown_front address word) ≡ Some (address, word)
unfolding cell_in shown_cell given_cell digits_of four_digits
shown_read_cell address word is_address is_word =
    ap (λ cell. option_or cell (given_cell (shown_front address word)))
    (cell_read address word (map to_ascii_uppercase (digits_of word)) is_address is_word (capital_digits word))

shown_ends : (address word : ℕ) → without_terminator (shown_front address word ++ 10 ∷ []) ≡ shown_front address word
unfolding digits_of four_digits
shown_ends address word =
    cond-false (eqb (to_ascii_uppercase (digit_byte (word % 65536 % 16))) 13) _ (shown_front address word)
    (ne_eqb (to_ascii_uppercase (digit_byte (word % 65536 % 16))) 13 (digit_so (word % 65536)).no_capital_return)

shown_is : (address word : ℕ) → shown_front address word ++ 10 ∷ [] ≡ shown_line address word
unfolding digits_of four_digits
shown_is address word = refl

pub shown_read : (address word : ℕ) → IsAddress address → IsWord word → IsLineRead (shown_line address word) address word
shown_read address word is_address is_word =
    subst (λ line. IsLineRead line address word) (shown_is address word)
    (line_read (shown_front address word) address word (shown_no_feed address word) (shown_ends address word) (shown_read_cell address word is_address is_word))

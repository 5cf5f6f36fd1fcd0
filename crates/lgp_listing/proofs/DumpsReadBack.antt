-- Each drum's dump is read back: it has no fault, and no other drum has it.
use Rattle.std.proofs.Common.{◌≡◌, ◌≢◌, ◌<◌, ◌≤◌, ◌+◌, ◌%◌, ◌++◌, ◌==◌, ℕ, List, [], ◌∷◌, length, take, drop, Some, None, refl, sym, ap, ◌∙◌, arith, ⊎_elim, codes, rules}
use Rattle.std.specs.List.{All}
use Rattle.std.proofs.lemmas.Bool.{cond-true, cond-false, cases_eq, eq-eqb, ne_eqb}
use Rattle.std.proofs.lemmas.List.{append_assoc, take_at, drop_at, length-append}
use Rattle.std.proofs.lemmas.List.Elements.{All-head, All-tail}
use Rattle.std.proofs.lemmas.List.Elements.{All-get_or}
use Rattle.bstr.specs.Text.{line_len, lines_of}
use Rattle.bstr.proofs.lemmas.LineLemmas.{lines-nil, lines-step}
use Rattle.lgp_word.specs.Address.{IsAddress}
use Rattle.lgp_word.specs.Word.{IsWord}
use Rattle.lgp_word.specs.Digits.{digits, digit_byte, digits_of, four_digits, address_digits, address_text, word_of_digits}
use Rattle.lgp_word.proofs.DigitLemmas.{word_of_digits-digits_of}
use Rattle.lgp_word.proofs.TextLemmas.{address_text-address_digits}
use Rattle.lgp_listing.specs.Dump.{IsDrum, cell_line, word_line, dump_from, dump_of, fault_from, first_fault}
use Rattle.lgp_listing.proofs.Cells.{cell_in-cell_line}
use Rattle.lgp_listing.proofs.FaultSteps.{onward}

-- ---- each line of a dump ends at its line feed

-- no byte of these ends a line
abbrev pub HasNoFeed : List ℕ → Type 0
HasNoFeed [] = Unit {0}
HasNoFeed (b ∷ bytes) = (b ≢ 10) × HasNoFeed bytes

len_to_feed : (bytes rest : List ℕ) → HasNoFeed bytes → line_len (bytes ++ 10 ∷ rest) ≡ length bytes + 1
unfolding line_len
len_to_feed [] rest none = refl
len_to_feed (b ∷ bytes) rest none = grind (arith, cond-false, len_to_feed bytes rest none.1)

-- the lines of a text that begins with a line
line_first : (bytes rest : List ℕ) → HasNoFeed bytes → lines_of (bytes ++ 10 ∷ rest) ≡ (bytes ++ 10 ∷ []) ∷ lines_of rest
line_first bytes rest none =
    let line = bytes ++ 10 ∷ [] in
    let text = bytes ++ 10 ∷ rest in
    let whole : text ≡ line ++ rest = sym (append_assoc bytes (10 ∷ []) rest) in
    let size : length line ≡ length bytes + 1 = length-append bytes (10 ∷ []) in
    let len : line_len text ≡ length line = len_to_feed _ _ none ∙ sym size in
    let some : 0 < length text = omega (arith, length-append bytes (10 ∷ rest)) in
    lines-step text some ∙ ap (λ n. take n text ∷ lines_of (drop n text)) len
    ∙ ap (λ t. take (length line) t ∷ lines_of (drop (length line) t)) whole
    ∙ ap (λ t. t ∷ lines_of (drop (length line) (line ++ rest))) (take_at line rest (length line) refl)
    ∙ ap (λ t. line ∷ lines_of t) (drop_at line rest (length line) refl)

digit_no_feed : (value : ℕ) → value < 16 → digit_byte value ≢ 10
unfolding digit_byte
digit_no_feed value small = All-get_or (λ b. b ≢ 10) digits value 0 small none_is
  where
    none_is : All (λ b. b ≢ 10) digits
    none_is = search rules

-- a line of a dump, without its line feed
abbrev front : ℕ → ℕ → List ℕ
front address word = address_digits address ++ codes " " ++ digits_of word

front_no_feed : (address word : ℕ) → IsAddress address → IsWord word → HasNoFeed (front address word)
unfolding digits_of four_digits
front_no_feed address word is_address is_word =
    let digit = λ (n : ℕ). digit_no_feed (n % 16) (omega arith) in (
      λ e. absurd (omega arith),
      (
        λ e. absurd (omega arith),
        (
          λ e. absurd (omega arith),
          (
            λ e. absurd (omega arith),
            (
              λ e. absurd (omega arith),
              (
                digit _,
                (
                  digit _,
                  (
                    digit _,
                    (
                      digit _,
                      (digit _, (digit _, (digit _, (digit _, tt)))),
                    ),
                  ),
                ),
              ),
            ),
          ),
        ),
      ),
    )

cell_first : (address word : ℕ) (rest : List ℕ) → IsAddress address → IsWord word → lines_of (cell_line address word ++ rest) ≡ cell_line address word ∷ lines_of rest
cell_first address word rest is_address is_word =
    ap lines_of (append_assoc (front address word) (10 ∷ []) rest) ∙ line_first (front address word) rest (front_no_feed _ _ is_address is_word)

-- ---- no line is faulty

word_yes : (address word : ℕ) → word ≢ 0 → word_line address word ≡ cell_line address word
word_yes address word some = cond-false (word == 0) [] (cell_line address word) (ne_eqb word 0 some)

word_no : (address word : ℕ) → word ≡ 0 → word_line address word ≡ []
word_no address word zero_is = cond-true (word == 0) [] (cell_line address word) (eq-eqb word 0 zero_is)

faultless_from : (number least from : ℕ) (words : List ℕ) → least ≤ from → from + length words ≤ 4096 → All IsWord words
    → fault_from number least (lines_of (dump_from from words)) ≡ None
unfolding fault_from
faultless_from number least from [] low high _ = ap (fault_from number least) lines-nil
faultless_from number least from (word ∷ words) low high all =
    let rest = dump_from (from + 1) words in
    ⊎_elim
    (λ none. ap (λ l. fault_from number least (lines_of (l ++ rest))) (word_no _ _ none)
    ∙ faultless_from number least (from + 1) words (omega arith) (omega arith) (All-tail IsWord _ _ all))
    (λ some.
    let is_address : IsAddress from = omega arith in
    let is_word : IsWord word = All-head IsWord word words all in
    ap (λ l. fault_from number least (lines_of (l ++ rest))) (word_yes _ _ some)
    ∙ ap (fault_from number least) (cell_first _ _ _ is_address is_word)
    ∙ onward (cell_line from _) (lines_of rest) number least (from, word) (cell_in-cell_line _ _ is_address is_word some) low
    ∙ faultless_from (number + 1) (from + 1) (from + 1) words (omega arith) (omega arith) (All-tail IsWord _ _ all))
    (cases_eq word 0)

pub dump_faultless : (words text : List ℕ) → IsDrum words → text ≡ dump_of words → first_fault text ≡ None
unfolding dump_of
dump_faultless words text is_drum is =
    grind (arith, faultless_from)

-- ---- no two drums have one dump

some_some : (a b : ℕ) → Some a ≡ Some b → a ≡ b
some_some a b e = cc (e)

-- two texts that begin with lines of words begin with the same
same_cell : (a b v w : ℕ) (xs ys : List ℕ) → IsAddress a → IsAddress b → IsWord v → IsWord w
    → cell_line a v ++ xs ≡ cell_line b w ++ ys → (a ≡ b) × (v ≡ w) × (xs ≡ ys)
unfolding digits_of four_digits
same_cell a b v w xs ys is_a is_b is_v is_w e =
    let address : address_digits a ≡ address_digits b = cc (e) in
    let digits_same : digits_of v ≡ digits_of w = cc (e) in (
      some_some a b (sym (address_text-address_digits a is_a) ∙ ap address_text address ∙ address_text-address_digits b is_b),
      some_some v w (sym (word_of_digits-digits_of v is_v) ∙ ap word_of_digits digits_same ∙ word_of_digits-digits_of w is_w),
      cc (e),
    )

-- what the words from an address on begin with has that address or a later one
begins_at : (from : ℕ) (words : List ℕ) (address word : ℕ) (rest : List ℕ) → from + length words ≤ 4096 → All IsWord words → IsAddress address → IsWord word
    → dump_from from words ≡ cell_line address word ++ rest → from ≤ address
unfolding digits_of four_digits
begins_at from [] address word rest high all is_address is_word e = cc (e)
begins_at from (first ∷ words) address word rest high all is_address is_word e = ⊎_elim
    (λ none.
    let later = begins_at (from + 1) words address word rest (omega arith) (All-tail IsWord first words all) is_address is_word
    (sym (ap (λ l. l ++ dump_from (from + 1) words) (word_no from first none)) ∙ e) in
    omega arith)
    (λ some.
    let same = same_cell from address first word (dump_from (from + 1) words) rest (omega arith) is_address (All-head IsWord first words all) is_word
    (sym (ap (λ l. l ++ dump_from (from + 1) words) (word_yes from first some)) ∙ e) in
    omega (arith, same.0))
    (cases_eq first 0)

same_from : (from : ℕ) (xs ys : List ℕ) → length xs ≡ length ys → from + length xs ≤ 4096 → All IsWord xs → All IsWord ys
    → dump_from from xs ≡ dump_from from ys → xs ≡ ys
same_from from [] [] size high all_x all_y e = refl
same_from from [] (y ∷ ys) size high all_x all_y e = absurd (omega arith)
same_from from (x ∷ xs) [] size high all_x all_y e = absurd (omega arith)
same_from from (x ∷ xs) (y ∷ ys) size high all_x all_y e =
    let more_x = dump_from (from + 1) xs in
    let more_y = dump_from (from + 1) ys in
    let is_address : IsAddress from = omega arith in
    let high_y : from + 1 + length ys ≤ 4096 = omega arith in
    let rests : dump_from (from + 1) xs ≡ dump_from (from + 1) ys → xs ≡ ys = same_from (from + 1) xs ys (omega arith) (omega arith) (All-tail IsWord x xs all_x) (All-tail IsWord y ys all_y) in
    ⊎_elim
    (λ x_none. ⊎_elim
    (λ y_none.
    let both = sym (ap (λ l. l ++ more_x) (word_no from x x_none)) ∙ e ∙ ap (λ l. l ++ more_y) (word_no from y y_none) in
    ap (λ w. w ∷ xs) (x_none ∙ sym y_none) ∙ ap (λ l. y ∷ l) (rests both))
    (λ y_some.
    let later = begins_at (from + 1) xs from y more_y (omega arith) (All-tail IsWord x xs all_x) is_address (All-head IsWord y ys all_y)
    (sym (ap (λ l. l ++ more_x) (word_no from x x_none)) ∙ e ∙ ap (λ l. l ++ more_y) (word_yes from y y_some)) in
    absurd (omega arith))
    (cases_eq y 0))
    (λ x_some. ⊎_elim
    (λ y_none.
    let later = begins_at (from + 1) ys from x more_x high_y (All-tail IsWord y ys all_y) is_address (All-head IsWord x xs all_x)
    (sym (ap (λ l. l ++ more_y) (word_no from y y_none)) ∙ sym e ∙ ap (λ l. l ++ more_x) (word_yes from x x_some)) in
    absurd (omega arith))
    (λ y_some.
    let same = same_cell from from x y more_x more_y is_address is_address (All-head IsWord x xs all_x) (All-head IsWord y ys all_y)
    (sym (ap (λ l. l ++ more_x) (word_yes from x x_some)) ∙ e ∙ ap (λ l. l ++ more_y) (word_yes from y y_some)) in
    ap (λ w. w ∷ xs) same.1 ∙ ap (λ l. y ∷ l) (rests same.2))
    (cases_eq y 0))
    (cases_eq x 0)

pub one_drum : (xs ys : List ℕ) → IsDrum xs → IsDrum ys → dump_of xs ≡ dump_of ys → xs ≡ ys
unfolding dump_of
one_drum xs ys is_x is_y e = grind (arith, same_from)

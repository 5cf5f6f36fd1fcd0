-- Lines of graphic bytes without a `;`: how they are cut, and what two words with spaces before them are as tokens.
use Rattle.std.proofs.Common.{◌≡◌, ◌≢◌, ◌≤◌, ◌+◌, ◌++◌, ◌&&◌, ◌==◌, ℕ, suc, Bool, true, false, List, [], ◌∷◌, length, take, drop, Some, None, refl, sym, ap, ◌∙◌, arith}
use Rattle.std.specs.List.{position_or_len, position}
use Rattle.std.specs.Prelude.{if◌then◌else◌, is_some}
use Rattle.std.proofs.lemmas.Bool.{cond-false, ne_eqb, and_from}
use Rattle.std.proofs.lemmas.List.{append-nil, take_at, drop_at}
use Rattle.lgp_source.specs.Source.{SourceToken, SourceLine, pieces, text_of, is_blank, is_bad, body_from, before_comment, tokens_from, tokens_of, line_of, line_with}
use Rattle.lgp_source.proofs.Places.{run_more, run_none, past_token}

-- a byte from the space to `~`, but no `;`
abbrev pub IsPlain : ℕ → Type 0
IsPlain b = (32 ≤ b) × (b ≤ 126) × (b ≢ 59)

abbrev pub ArePlain : List ℕ → Type 0
ArePlain [] = Unit {0}
ArePlain (b ∷ bytes) = IsPlain b × ArePlain bytes

-- and no space
abbrev pub AreVisible : List ℕ → Type 0
AreVisible [] = Unit {0}
AreVisible (b ∷ bytes) = (IsPlain b × (b ≢ 32)) × AreVisible bytes

pub plain_visible : (bytes : List ℕ) → AreVisible bytes → ArePlain bytes
plain_visible [] all = tt
plain_visible (b ∷ bytes) all = (all.0.0, plain_visible bytes all.1)

pub plain_append : (one other : List ℕ) → ArePlain one → ArePlain other → ArePlain (one ++ other)
plain_append [] other all more = more
plain_append (b ∷ one) other all more = (all.0, plain_append one other all.1 more)

-- ---- cutting

-- a line ends at the line feed after it
pub piece_first : (line rest : List ℕ) → ArePlain line → pieces (line ++ 10 ∷ rest) ≡ line ∷ pieces rest
piece_first [] rest all = refl
piece_first (b ∷ line) rest all =
    grind (arith, cond-false, piece_first line rest all.1)

-- and keeps all its bytes
pub text_whole : (line : List ℕ) → ArePlain line → text_of line ≡ line
text_whole [] all = refl
text_whole (b ∷ []) all =
    grind (arith, cond-false)
text_whole (b ∷ c ∷ rest) all = ap (λ t. b ∷ t) (text_whole _ all.1)

good_byte : (b : ℕ) → IsPlain b → is_bad b ≡ false
good_byte b plain =
    grind (arith, and_from)

good_len : (line : List ℕ) → ArePlain line → position_or_len is_bad line ≡ length line
good_len [] all = refl
good_len (b ∷ line) all =
    grind (arith, good_byte, good_len line all.1)

pub no_bad_byte : (line : List ℕ) → ArePlain line → position is_bad line ≡ None
no_bad_byte line all =
    grind (arith, good_len, cond-false)

no_comment_from : (fresh : Bool) (line : List ℕ) → ArePlain line → body_from fresh line ≡ line
no_comment_from fresh [] all = refl
no_comment_from fresh (b ∷ line) all =
    cond-false (fresh && b == 59) [] (b ∷ body_from (is_blank b) line) (ap (λ t. fresh && t) (ne_eqb b 59 all.0.2) ∙ neither _)
    ∙ ap (λ t. b ∷ t) (no_comment_from (is_blank b) line all.1)
  where
    neither : (fresh : Bool) → (fresh && false) ≡ false
    neither true = refl
    neither false = refl

pub no_comment : (line : List ℕ) → ArePlain line → before_comment line ≡ line
no_comment line all = no_comment_from _ _ all

-- ---- tokens

visible_byte : (b : ℕ) → IsPlain b × (b ≢ 32) → is_blank b ≡ false
visible_byte b all =
    grind arith

-- nothing comes, or a blank
abbrev pub BeginsBlank : List ℕ → Type 0
BeginsBlank [] = Unit {0}
BeginsBlank (b ∷ rest) = is_blank b ≡ true

run_len : (word rest : List ℕ) → AreVisible word → BeginsBlank rest → position_or_len is_blank (word ++ rest) ≡ length word
run_len [] [] all blank = refl
run_len [] (b ∷ rest) all blank = run_none b rest blank
run_len (b ∷ word) rest all blank = run_more b (word ++ rest) (visible_byte b all.0) ∙ ap suc (run_len word rest all.1 blank)

token_of : ℕ → List ℕ → SourceToken
token_of place word = record { text = word; first = place; past = place + length word }

-- a word before a blank is a token
token_first : (place b : ℕ) (word rest : List ℕ) → AreVisible (b ∷ word) → BeginsBlank rest
    → tokens_from place true ((b ∷ word) ++ rest) ≡ token_of place (b ∷ word) ∷ tokens_from (place + length (b ∷ word)) true rest
unfolding token_of
token_first place b word rest all blank =
    let whole = b ∷ word in
    let n = position_or_len is_blank (whole ++ rest) in
    let len : n ≡ length whole = run_len whole _ all blank in
    past_token place b (word ++ rest) (visible_byte b all.0)
    ∙ ap (λ k. record { text = take k (whole ++ rest); first = place; past = place + k } ∷ tokens_from (place + k) true (drop k (whole ++ rest))) len
    ∙ ap (λ t. record { text = t; first = place; past = place + length whole } ∷ tokens_from (place + length whole) true (drop (length whole) (whole ++ rest))) (take_at whole rest (length whole) refl)
    ∙ ap (λ t. token_of place whole ∷ tokens_from (place + length whole) true t) (drop_at whole rest (length whole) refl)

-- the line of an operation and an operand, each after a space
pub record IsStatement (line : SourceLine) (number : ℕ) (text name operand : List ℕ) : Type 0 where
  pub first : SourceToken
  pub second : SourceToken
  pub name_is : first.text ≡ name
  pub operand_is : second.text ≡ operand
  pub line_is : line ≡ record { number = number; text = text; label = None; operation = Some first; operands = Some second ∷ None ∷ []; bad_byte = None; extra = false }

pub statement_line : (number n o : ℕ) (name operand : List ℕ) → AreVisible (n ∷ name) → AreVisible (o ∷ operand)
    → let text = 32 ∷ ((n ∷ name) ++ 32 ∷ (o ∷ operand)) in IsStatement (line_of number text) number text (n ∷ name) (o ∷ operand)
unfolding token_of
statement_line number n o name operand is_name is_operand =
    let text = 32 ∷ ((n ∷ name) ++ 32 ∷ (o ∷ operand)) in
    let plain : ArePlain text = (
      (omega arith, omega arith, λ e. absurd (omega arith)),
      plain_append (n ∷ name) (32 ∷ (o ∷ operand)) (plain_visible (n ∷ name) is_name)
          ((omega arith, omega arith, λ e. absurd (omega arith)), plain_visible (o ∷ operand) is_operand),
    ) in
    let after = 1 + length (n ∷ name) in
    let tokens : tokens_of text ≡ token_of 1 (n ∷ name) ∷ token_of (after + 1) (o ∷ operand) ∷ [] =
    ap (tokens_from 0 true) (no_comment text plain)
    ∙ token_first 1 n name (32 ∷ (o ∷ operand)) is_name refl
    ∙ ap (λ t. token_of 1 (n ∷ name) ∷ t) (ap (tokens_from (after + 1) true) (sym (append-nil (o ∷ operand)))
    ∙ token_first _ o _ [] is_operand tt) in
    record {
      first = token_of 1 (n ∷ name);
      second = token_of (after + 1) (o ∷ operand);
      name_is = refl;
      operand_is = refl;
      line_is = ap (λ bad. line_with number text bad (if is_some bad then [] else tokens_of text)) (no_bad_byte text plain)
          ∙ ap (line_with number text None) tokens;
    }

-- The words of a line that was put together of words, each after one space.
use Rattle.std.proofs.Common.{◌≡◌, ℕ, ◌≤◌, false, Option, List, [], ◌∷◌, ◌++◌, length, take, drop, refl, sym, ap, ◌∙◌, arith}
use Rattle.std.specs.List.{position_or_len}
use Rattle.std.specs.Option.{option_zip}
use Rattle.std.proofs.lemmas.List.{append-nil, drop-append-le, drop_all, take-append-le, take_all}
use Rattle.lgp_stream.specs.LineWords.{after_word, first_word, has_no_word, is_space, without_spaces}
use Rattle.lgp_command.specs.Command.{lone_operand, operand_pair}

-- no byte is a space
abbrev pub IsVisible : List ℕ → Type 0
IsVisible [] = Unit {0}
IsVisible (b ∷ more) = (is_space b ≡ false) × IsVisible more

pub visible-append : (one other : List ℕ) → IsVisible one → IsVisible other → IsVisible (one ++ other)
visible-append [] other first second = second
visible-append (b ∷ one) other first second = (first.0, visible-append one other first.1 second)

-- a word, which has a byte
pub record IsWordText (word : List ℕ) : Type 0 where
  pub seen : IsVisible word
  pub some : 1 ≤ length word

-- where a word ends: at the next space, or at the line's end
ends_before : (word rest : List ℕ) → IsVisible word → position_or_len is_space (word ++ 32 ∷ rest) ≡ length word
ends_before [] rest seen = refl
ends_before (b ∷ word) rest seen =
    let more = ends_before word rest seen.1 in
    rw seen.0 (omega arith)

ends_all : (word : List ℕ) → IsVisible word → position_or_len is_space word ≡ length word
ends_all [] seen = refl
ends_all (b ∷ word) seen =
    let more = ends_all word seen.1 in
    rw seen.0 (omega arith)

-- the space in front is passed over
starts : (word rest : List ℕ) → IsWordText word → without_spaces (32 ∷ (word ++ rest)) ≡ word ++ rest
unfolding without_spaces
starts [] rest is = absurd (omega (arith, is.some))
starts (b ∷ word) rest is = rw is.seen.0 refl

take_front : (word rest : List ℕ) → take (length word) (word ++ rest) ≡ word
take_front word rest = take-append-le (length word) word rest (omega arith) ∙ take_all (length word) word (omega arith)

drop_front : (word rest : List ℕ) → drop (length word) (word ++ rest) ≡ rest
drop_front word rest =
    drop-append-le (length word) word rest (omega arith) ∙ ap (λ (l : List ℕ). l ++ rest) (drop_all (length word) word (omega arith))

-- a word that another one follows
pub first_before : (word rest : List ℕ) → IsWordText word → first_word (32 ∷ (word ++ 32 ∷ rest)) ≡ word
unfolding first_word
first_before word rest is =
    rw (starts word (32 ∷ rest) is, ends_before word rest is.seen) (take_front word (32 ∷ rest))

pub after_before : (word rest : List ℕ) → IsWordText word → after_word (32 ∷ (word ++ 32 ∷ rest)) ≡ 32 ∷ rest
unfolding after_word
after_before word rest is =
    rw (starts word (32 ∷ rest) is, ends_before word rest is.seen) (drop_front word (32 ∷ rest))

-- the last word
starts_last : (word : List ℕ) → IsWordText word → without_spaces (32 ∷ word) ≡ word
starts_last word is = ap (λ (l : List ℕ). without_spaces (32 ∷ l)) (sym (append-nil word)) ∙ (starts word [] is ∙ append-nil word)

pub first_last : (word : List ℕ) → IsWordText word → first_word (32 ∷ word) ≡ word
unfolding first_word
first_last word is =
    rw (starts_last word is, ends_all word is.seen) (take_all (length word) word (omega arith))

pub after_last : (word : List ℕ) → IsWordText word → after_word (32 ∷ word) ≡ []
unfolding after_word
after_last word is =
    rw (starts_last word is, ends_all word is.seen) (drop_all (length word) word (omega arith))

-- one operand, and two
pub lone_read : {T : Type 0} (read : List ℕ → Option T) (word : List ℕ) → IsWordText word → lone_operand read (32 ∷ word) ≡ read word
unfolding has_no_word
lone_read read word is = rw (after_last word is, first_last word is) refl

pub pair_read : {S T : Type 0} (read_first : List ℕ → Option S) (read_second : List ℕ → Option T) (one other : List ℕ) → IsWordText one → IsWordText other
    → operand_pair read_first read_second (32 ∷ (one ++ 32 ∷ other)) ≡ option_zip (read_first one) (read_second other)
unfolding has_no_word
pair_read read_first read_second one other is is_other =
    rw (after_before one other is, after_last other is_other, first_before one other is, first_last other is_other) refl

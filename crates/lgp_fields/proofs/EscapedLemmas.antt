-- The bytes of texts one after another.
use Rattle.std.proofs.Common.{◌≡◌, ◌∙◌, ℕ, ◌/◌, ◌%◌, ◌<◌, ◌&&◌, Bool, true, false, List, [], ◌∷◌, ◌++◌, append_assoc, arith, refl}
use Rattle.std.proofs.lemmas.List.Folds.{list_all_at, list_all-append}
use Rattle.std.specs.List.{list_all}
use Rattle.lgp_word.specs.Digits.{digit_byte, digits, digits_of, four_digits}
use Rattle.lgp_fields.specs.Escaped.{escaped, escaped_byte, is_itself}

pub escaped-append : (a b : List ℕ) → escaped (a ++ b) ≡ escaped a ++ escaped b
unfolding escaped
escaped-append [] b = refl
escaped-append (character ∷ more) b = rw (escaped-append more b, append_assoc)

pub escaped-two : (t a b : List ℕ) → (t ++ escaped a) ++ escaped b ≡ t ++ escaped (a ++ b)
escaped-two t a b = rw (escaped-append a b) (simp append_assoc)

byte_itself : (c : ℕ) → is_itself c ≡ true → escaped_byte c ≡ c ∷ []
unfolding escaped_byte
byte_itself c is = rw is refl

pub themselves : (text : List ℕ) → list_all is_itself text ≡ true → escaped text ≡ text
unfolding escaped
themselves [] all = refl
themselves (c ∷ more) all = by_tests (is_itself c) (list_all is_itself more) refl refl (λ rest. themselves more rest) all where
  by_tests : (here there : Bool) → is_itself c ≡ here → list_all is_itself more ≡ there → (list_all is_itself more ≡ true → escaped more ≡ more) → (here && there) ≡ true
      → escaped_byte c ++ escaped more ≡ c ∷ more
  by_tests true true e f later is = rw (byte_itself c e, later f) refl
  by_tests true false e f later is = cc
  by_tests false there e f later is = cc

-- each of the sixteen digits of a word is written as itself
digit_itself : (value : ℕ) → value < 16 → is_itself (digit_byte value) ≡ true
unfolding digit_byte
digit_itself value small = by_test (is_itself (digit_byte value)) refl where
  by_test : (test : Bool) → is_itself (digit_byte value) ≡ test → test ≡ true
  by_test true e = refl
  by_test false e = absurd (grind (arith, list_all_at is_itself digits value 0 small e))

four_themselves : (number : ℕ) → list_all is_itself (four_digits number) ≡ true
unfolding four_digits
four_themselves number =
    rw (
      digit_itself (number / 4096 % 16) (omega arith),
      digit_itself (number / 256 % 16) (omega arith),
      digit_itself (number / 16 % 16) (omega arith),
      digit_itself (number % 16) (omega arith),
    ) refl

pub digits-themselves : (bits : ℕ) → escaped (digits_of bits) ≡ digits_of bits
unfolding digits_of
digits-themselves bits =
    themselves (digits_of bits) (list_all-append is_itself (four_digits (bits / 65536)) (four_digits (bits % 65536))
    ∙ rw (four_themselves (bits / 65536), four_themselves (bits % 65536)) refl)

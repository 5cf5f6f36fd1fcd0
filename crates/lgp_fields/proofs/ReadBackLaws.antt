-- What is written in a line is read back.
use Rattle.std.proofs.Common.{◌≡◌, ℕ, ◌+◌, ◌*◌, ◌/◌, ◌%◌, ◌<◌, ◌==◌, ◌&&◌, ◌||◌, Bool, true, false, cond, nat_lt, List, [], ◌∷◌, ◌++◌, ap, append_assoc, ◌∙◌, arith, refl}
use Rattle.std.proofs.lemmas.Bool.Decides.{nat_tests}
use Rattle.std.proofs.lemmas.Grind.{common_steps}
use Rattle.lgp_fields.specs.Escaped.{escaped, escaped_byte, hex_digit, is_itself}
use Rattle.lgp_fields.specs.ReadBack.{are_bytes, has_no_blank, hex_value, key_of, unescaped, unescaped_at, value_of}

digit_back : (v : ℕ) → v < 16 → hex_value (hex_digit v) ≡ v
unfolding hex_value
digit_back v below = grind (arith, nat_tests)

-- by whether a byte is written as itself, and whether it comes after a backslash
by_tests : (c : ℕ) (rest : List ℕ) (itself quoted : Bool) → c < 256 → is_itself c ≡ itself → ((c == 34) || (c == 92)) ≡ quoted
    → unescaped_at 0 0 (cond itself (c ∷ []) (cond quoted (92 ∷ c ∷ []) (92 ∷ 117 ∷ 48 ∷ 48 ∷ hex_digit (c / 16) ∷ hex_digit (c % 16) ∷ [])) ++ rest) ≡ c ∷ unescaped_at 0 0 rest
unfolding unescaped_at hex_value
by_tests c rest true quoted below is after =
    let slash : (c == 92) ≡ false = grind (arith, nat_tests) in
    let mark : (c == 34) ≡ false = grind (arith, nat_tests) in rw (mark, slash) refl
by_tests c rest false true below is after =
    let other : (c == 117) ≡ false = grind (arith, nat_tests) in rw other refl
by_tests c rest false false below is after =
    let high : hex_value (hex_digit (c / 16)) ≡ c / 16 = digit_back (c / 16) (omega arith) in
    let low : hex_value (hex_digit (c % 16)) ≡ c % 16 = digit_back (c % 16) (omega arith) in
    let e : 16 * (16 * 0 + hex_value (hex_digit (c / 16))) + hex_value (hex_digit (c % 16)) ≡ c = omega (arith, high, low) in
    ap (λ (n : ℕ). n ∷ unescaped_at 0 0 rest) e

byte_back : (c : ℕ) (rest : List ℕ) → nat_lt c 256 ≡ true → unescaped_at 0 0 (escaped_byte c ++ rest) ≡ c ∷ unescaped_at 0 0 rest
unfolding escaped_byte
byte_back c rest byte =
    let below : c < 256 = grind (arith, nat_tests) in
    by_tests c rest (is_itself c) ((c == 34) || (c == 92)) below refl refl

-- both tests of a pair
pub split : (a b : Bool) → (a && b) ≡ true → (a ≡ true) × (b ≡ true)
split true true is = (refl, refl)
split true false is = absurd (grind arith)
split false b is = absurd (grind arith)

pub text_back : (text : List ℕ) → are_bytes text ≡ true → unescaped (escaped text) ≡ text
unfolding escaped unescaped_at
text_back [] bytes = refl
text_back (c ∷ more) bytes =
    let both = split (nat_lt c 256) (are_bytes more) bytes in
    byte_back c (escaped more) both.0 ∙ ap (λ (t : List ℕ). c ∷ t) (text_back more both.1)

-- with a quotation mark and anything else after it
pub text_back_in : (text rest : List ℕ) → are_bytes text ≡ true → unescaped_at 0 0 (escaped text ++ 34 ∷ rest) ≡ text
unfolding escaped unescaped_at
text_back_in [] rest bytes = refl
text_back_in (c ∷ more) rest bytes =
    let both = split (nat_lt c 256) (are_bytes more) bytes in
    ap (λ (t : List ℕ). unescaped_at 0 0 t) (append_assoc (escaped_byte c) (escaped more) (34 ∷ rest))
    ∙ byte_back c (escaped more ++ 34 ∷ rest) both.0 ∙ ap (λ (t : List ℕ). c ∷ t) (text_back_in more rest both.1)

pub key_back : (key rest : List ℕ) → has_no_blank key ≡ true → key_of (key ++ 32 ∷ rest) ≡ key
unfolding key_of
key_back [] rest free = refl
key_back (b ∷ more) rest free = grind (arith, common_steps, key_back more rest)

pub value_back : (key rest : List ℕ) → has_no_blank key ≡ true → value_of (key ++ 32 ∷ rest) ≡ rest
unfolding value_of
value_back [] rest free = refl
value_back (b ∷ more) rest free = grind (arith, common_steps, value_back more rest)

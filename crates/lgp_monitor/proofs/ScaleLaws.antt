-- Numbers with their point after place 30, and those for which ten decimals are enough.
use Rattle.std.proofs.Common.{◌≡◌, ℕ, ◌+◌, ◌-◌, ◌*◌, ◌/◌, ◌%◌, ◌^◌, ◌≤◌, Bool, true, false, if◌then◌else◌, List, ◌++◌, refl, arith, ap, sym, ◌∙◌, pow-add, mul_assoc, append-nil, codes, decimal}
use Rattle.std.proofs.Math.Nat.{div-eq_of_lt-le, one-le-pow}
use Rattle.lgp_trace.specs.AccountLines.{minus_text, number_text}
use Rattle.lgp_monitor.specs.Scaled.{scaled_text, units_at, units_text}

units-whole : (size : ℕ) → units_at 30 size ≡ size * 10 ^ 10
unfolding units_at
units-whole size = omega arith

text-whole : (size : ℕ) → units_text (size * 10 ^ 10) ≡ decimal size
unfolding units_text
text-whole size =
    let whole : size * 10 ^ 10 / 10 ^ 10 ≡ size = omega arith in
    let none : size * 10 ^ 10 % 10 ^ 10 ≡ 0 = omega arith in
    rw (whole, none) (append-nil (decimal size))

abbrev number_by : Bool → ℕ → List ℕ
number_by minus word = if minus then codes "-" ++ decimal ((2 ^ 32 - word) / 2) else decimal (word / 2)

text-by : (minus : Bool) (word : ℕ) → minus_text minus ++ decimal (if minus then (2 ^ 32 - word) / 2 else word / 2) ≡ number_by minus word
text-by true word = refl
text-by false word = refl

pub text-after_place_30 : (word : ℕ) → scaled_text 30 word ≡ number_text word
unfolding scaled_text
text-after_place_30 word =
    rw (units-whole _, text-whole _) (text-by _ _)

pub units-exact : (point size units : ℕ) → size * 10 ^ 10 ≡ units * 2 ^ (30 - point) → units_at point size ≡ units
unfolding units_at
units-exact point size units exact =
    rw exact (quotient _ _ (one-le-pow (30 - point) 2 (omega arith))) where
      quotient : (units divisor : ℕ) → 1 ≤ divisor → (2 * (units * divisor) + divisor) / (2 * divisor) ≡ units
      quotient units divisor some = div-eq_of_lt-le (2 * divisor) (omega arith) (omega arith)

powers : (places : ℕ) → places ≤ 10 → 2 ^ (10 - places) * 2 ^ places ≡ 2 ^ 10
powers places few =
    let sum : (10 - places) + places ≡ 10 = omega arith in
    sym (pow-add 2 (10 - places) places) ∙ ap (λ n. 2 ^ n) sum

late : (size places : ℕ) → places ≤ 10 → size * 10 ^ 10 ≡ size * 5 ^ 10 * 2 ^ (10 - places) * 2 ^ places
late size places few =
    let factors : size * 5 ^ 10 * 2 ^ (10 - places) * 2 ^ places ≡ size * 5 ^ 10 * 2 ^ 10 = mul_assoc (size * 5 ^ 10) (2 ^ (10 - places)) (2 ^ places) ∙ ap (λ n. size * 5 ^ 10 * n) (powers _ few) in
    let whole : size * 10 ^ 10 ≡ size * 5 ^ 10 * 2 ^ 10 = omega arith in
    whole ∙ sym factors

pub units-late : (point size : ℕ) → 20 ≤ point → size * 10 ^ 10 ≡ units_at point size * 2 ^ (30 - point)
units-late point size is_late =
    let exact = late _ _ (omega arith) in
    rw (units-exact _ _ _ exact) exact

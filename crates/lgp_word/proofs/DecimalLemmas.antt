-- How large a number of a given number of decimal digits is.
use Rattle.std.proofs.Common.{◌≡◌, ℕ, ◌+◌, ◌*◌, ◌<◌, ◌≤◌, ◌^◌, true, List, length, get_or, arith, lit<}
use Rattle.std.specs.Char.{is_ascii_digit}
use Rattle.std.specs.List.{list_all}
use Rattle.std.proofs.Math.Nat.{pow-le-pow_right}
use Rattle.std.proofs.lemmas.Grind.{common_steps, pow_more}
use Rattle.std.proofs.lemmas.List.Folds.{list_all_at}

-- a digit more has room in 64 bits
pub room : (number count : ℕ) → number < 10 ^ count → count < 18 → 10 * number + 9 < 10 ^ 18
room number count small few =
    let less : 10 ^ count ≤ 10 ^ 17 = pow-le-pow_right {n = 10} (lit< tt) {i = count} {j = 17} (omega arith) in
    omega arith

pub one_digit_more : (number count digit : ℕ) → number < 10 ^ count → digit < 10 → 10 * number + digit < 10 ^ (count + 1)
one_digit_more number count digit small is_digit =
    let next : 10 ^ (count + 1) ≡ 10 ^ count * 10 = pow_more 10 count in
    omega arith

-- a number of some digits is one of at most more
pub at_most_digits : (number count most : ℕ) → number < 10 ^ count → count ≤ most → number < 10 ^ most
at_most_digits number count most small few =
    let less : 10 ^ count ≤ 10 ^ most = pow-le-pow_right {n = 10} (lit< tt) {i = count} {j = most} few in
    omega arith

-- a digit among digits stands for at most 9
pub digit_of_digits : (digits : List ℕ) (i : ℕ) → list_all is_ascii_digit digits ≡ true → i < length digits → get_or digits i 0 < 58
digit_of_digits digits i all within = grind (arith, common_steps, list_all_at is_ascii_digit digits i 0 within)

use Rattle.std.proofs.Common.{◌≡◌, ◌∙◌, ◌≤◌, ◌<◌, ℕ, List, [], ◌∷◌, ◌++◌, false, true, ap, arith, nat_lt, refl}
use Rattle.std.specs.Fmt.{decimal}
use Rattle.std.specs.Str.Parse.{digits_value}
use Rattle.std.proofs.lemmas.Bool.Decides.{nat_tests}
use Rattle.std.proofs.lemmas.Fmt.{decimal_is_IsNumeral}
use Rattle.lgp_fields.specs.Plain.{Number}
use Rattle.lgp_fields.specs.Printed.{number_json, value_json, value_text}
use Rattle.lgp_fields.specs.ReadBack.{string_of}
use Rattle.lgp_fields.proofs.PieceLemmas.{decimal_is_plain, plain_back}
use Rattle.lgp_fields.proofs.laws.numbers_are_read_back.Goals as goal

small_json : (number : ℕ) → number < 9007199254740992 → value_json (Number number) ≡ decimal number
unfolding value_json number_json
small_json number small =
    let is : nat_lt number 9007199254740992 ≡ true = grind (arith, nat_tests) in rw is refl

large_json : (number : ℕ) → 9007199254740992 ≤ number → value_json (Number number) ≡ 34 ∷ (decimal number ++ 34 ∷ [])
unfolding value_json number_json
large_json number large =
    let is : nat_lt number 9007199254740992 ≡ false = grind (arith, nat_tests) in rw is refl

pub returns-clause-line : goal.returns-clause-line
unfolding value_text
returns-clause-line c = λ number small. (decimal_is_IsNumeral number small).1

pub returns-clause-json : goal.returns-clause-json
returns-clause-json c = λ number small.
    ap (digits_value 10) (small_json number small) ∙ (decimal_is_IsNumeral number (omega (arith, small))).1

pub returns-clause-large : goal.returns-clause-large
returns-clause-large c = λ number large small.
    ap (λ (l : List ℕ). digits_value 10 (string_of l)) (large_json number large)
    ∙ ap (digits_value 10) (plain_back (decimal number) [] (decimal_is_plain number)) ∙ (decimal_is_IsNumeral number small).1

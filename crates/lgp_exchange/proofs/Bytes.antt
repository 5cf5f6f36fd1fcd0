-- Bytes at most 63 are codes.
use Rattle.std.proofs.Common.{◌≡◌, ℕ, ◌<◌, ◌≤◌, false, List, length, get_or, Option, Some, None, refl, arith}
use Rattle.std.specs.List.{All, position_or_len}
use Rattle.std.proofs.lemmas.Bool.{ltb-false, ltb-true}
use Rattle.std.proofs.lemmas.Grind.{common_steps}
use Rattle.std.proofs.lemmas.List.Quantifiers.{position-Some}
use Rattle.std.proofs.lemmas.List.Sums.{fails_before_first}
use Rattle.lgp_flexo.specs.Code.{IsCode}
use Rattle.lgp_exchange.specs.TapeBytes.{first_no_code, is_no_code}

-- codes have no byte that is none
pub codes_none : (bytes : List ℕ) → All IsCode bytes → first_no_code bytes ≡ None
codes_none bytes all = pick (first_no_code bytes) refl
  where
    pick : (o : Option ℕ) → first_no_code bytes ≡ o → first_no_code bytes ≡ None
    pick None e = e
    pick (Some place) e =
        let found = position-Some is_no_code bytes place 0 e in
        let above : 63 < get_or bytes place 0 = ltb-true 63 (get_or bytes place 0) found.1 in
        let code : IsCode (get_or bytes place 0) = all place 0 found.0 in
        absurd (omega arith)

-- and bytes without such a byte are codes
pub none-code : (bytes : List ℕ) (i : ℕ) → first_no_code bytes ≡ None → i < length bytes → IsCode (get_or bytes i 0)
none-code bytes i e within =
    let long : length bytes ≤ position_or_len is_no_code bytes = grind (arith, common_steps) in
    let fails : is_no_code (get_or bytes i 0) ≡ false = fails_before_first is_no_code bytes i 0 (omega arith) in
    ltb-false 63 (get_or bytes i 0) fails

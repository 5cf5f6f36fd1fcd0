-- The paper of signs and carriage returns alone.
use Rattle.std.proofs.Common.{◌≡◌, ℕ, ◌+◌, ◌++◌, ◌&&◌, ◌||◌, ◌==◌, not, Bool, true, false, List, [], ◌∷◌, length, refl, sym, ap, ◌∙◌, arith, ⊎_elim}
use Rattle.std.specs.List.{All, flat_map, list_all}
use Rattle.std.proofs.lemmas.Bool.{and_parts, cases_eq, cond-false, cond-true, eq-eqb, ne_eqb, not-true}
use Rattle.std.proofs.lemmas.Grind.{flat_map-append}
use Rattle.std.proofs.lemmas.List.{append_assoc, append-nil, length_push}
use Rattle.std.proofs.lemmas.List.Elements.{All-head, All-tail}
use Rattle.lgp_flexo.specs.Code.{IsCode, sign_at}
use Rattle.lgp_flexo.specs.TapeText.{written_code}
use Rattle.lgp_flexo.proofs.Writing.{all_below, all_below-at}
use Rattle.lgp_exchange.specs.Paper.{Carriage, Struck, carriage_after, completed, is_plain, paper_from, paper_of, plain_text, row_struck, row_text, struck_at}

-- a code that a carriage strikes
abbrev is_struck : ℕ → Bool
is_struck code = not ((code == 0) || (code == 12) || (code == 63)) && (not (code == 4) && (not (code == 8) && (not (code == 20) && not (code == 24))))

-- seen code by code
all_struck : all_below (λ code. not (is_plain code) || ((code == 16) || is_struck code)) 64 ≡ true
unfolding sign_at
all_struck = refl

plain_struck : (plain return struck : Bool) → (not plain || (return || struck)) ≡ true → plain ≡ true → return ≡ false → struck ≡ true
plain_struck plain return struck h is_plain no_return = grind arith

after-struck : (at : Carriage) (code : ℕ) → is_struck code ≡ true → (code == 16) ≡ false → carriage_after at code ≡ struck_at at code
unfolding carriage_after
after-struck at code h no_return =
    let first = and_parts (not ((code == 0) || (code == 12) || (code == 63))) (not (code == 4) && (not (code == 8) && (not (code == 20) && not (code == 24)))) h in
    let second = and_parts (not (code == 4)) (not (code == 8) && (not (code == 20) && not (code == 24))) first.1 in
    let third = and_parts (not (code == 8)) (not (code == 20) && not (code == 24)) second.1 in
    let fourth = and_parts (not (code == 20)) (not (code == 24)) third.1 in
    rw (not-true ((code == 0) || (code == 12) || (code == 63)) first.0, not-true (code == 4) second.0, not-true (code == 8) third.0, no_return, not-true (code == 20) fourth.0, not-true (code == 24) fourth.1) refl

-- the carriage at the end of a row of signs in lower case
abbrev at_end : List Struck → Carriage
at_end row = record { upper = false; column = length row; row = row }

after-return : (row : List Struck) → carriage_after (at_end row) 16 ≡ at_end []
unfolding carriage_after
after-return row = refl

-- one sign more at the end of a row
struck-end : (row : List Struck) (code : ℕ) → struck_at (at_end row) code ≡ at_end (row ++ (false, code) ∷ [])
struck-end row code =
    let pushed : row_struck row (length row) (false, code) ≡ row ++ (false, code) ∷ [] = cond-true (length row == length row) (row ++ (false, code) ∷ []) _ (eq-eqb (length row) (length row) refl) in
    ap (λ (r : List Struck). record { upper = false; column = length row + 1; row = r }) pushed
    ∙ ap (λ (n : ℕ). record { upper = false; column = n; row = row ++ (false, code) ∷ [] }) (sym (length_push row (false, code)))

row-end : (row : List Struck) (code : ℕ) → row_text (row ++ (false, code) ∷ []) ≡ row_text row ++ written_code code
row-end row code = grind (arith, flat_map-append, append-nil)

plain_from : (row : List Struck) (tape : List ℕ) → All IsCode tape → list_all is_plain tape ≡ true
    → paper_from (at_end row) tape ≡ row_text row ++ flat_map plain_text tape
unfolding paper_from
plain_from row [] codes plain = sym (append-nil (row_text row))
plain_from row (code ∷ tape) codes plain =
    let is_code : IsCode code = All-head IsCode code tape codes in
    let parts = and_parts (is_plain code) (list_all is_plain tape) plain in
    let rest = flat_map plain_text tape in
    ⊎_elim
    (λ return.
    ap (λ c. completed (at_end row) c ++ paper_from (carriage_after (at_end row) c) tape) return
    ∙ ap (λ at. (row_text row ++ 10 ∷ []) ++ paper_from at tape) (after-return row)
    ∙ ap (λ t. (row_text row ++ 10 ∷ []) ++ t) (plain_from [] tape (All-tail IsCode code tape codes) parts.1)
    ∙ append_assoc (row_text row) (10 ∷ []) rest
    ∙ ap (λ (t : List ℕ). row_text row ++ (t ++ rest)) (sym (cond-true (code == 16) (10 ∷ []) (written_code code) (eq-eqb code 16 return))))
    (λ other.
    let no_return : (code == 16) ≡ false = ne_eqb code 16 other in
    let struck = plain_struck (is_plain code) (code == 16) _ (all_below-at (λ c. not (is_plain c) || ((c == 16) || is_struck c)) 64 code all_struck (omega arith)) parts.0 no_return in
    let longer = row ++ (false, code) ∷ [] in
    ap (λ t. t ++ paper_from (carriage_after (at_end row) code) tape) (cond-false (code == 16) (row_text row ++ 10 ∷ []) [] no_return)
    ∙ ap (λ at. paper_from at tape) (after-struck (at_end row) code struck no_return ∙ struck-end row code)
    ∙ plain_from longer tape (All-tail IsCode code tape codes) parts.1
    ∙ ap (λ t. t ++ rest) (row-end row code)
    ∙ append_assoc (row_text row) (written_code code) rest
    ∙ ap (λ (t : List ℕ). row_text row ++ (t ++ rest)) (sym (cond-false (code == 16) (10 ∷ []) (written_code code) no_return)))
    (cases_eq code 16)

pub plain_paper : (tape : List ℕ) → All IsCode tape → list_all is_plain tape ≡ true → paper_of tape ≡ flat_map plain_text tape
plain_paper tape codes plain = plain_from [] tape codes plain

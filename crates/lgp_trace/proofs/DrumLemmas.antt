-- Signs along the drum: how many they are, and signs after others.
use Rattle.std.proofs.Common.{◌≡◌, ◌∙◌, ℕ, zero, suc, ◌+◌, ◌-◌, ◌<◌, ◌++◌, [], ◌∷◌, List, Option, None, Some, length, replicate, length-append, append_assoc, refl, sym, ap, arith}
use Rattle.std.proofs.lemmas.List.{append-nil, length-replicate, replicate_more}
use Rattle.std.specs.Str.{byte}
use Rattle.lgp_trace.specs.Account.{stored_address}
use Rattle.lgp_trace.specs.DrumRows.{seek_signs, sign_in_row, signs_in_rows, signs_of, waited}
use Rattle.lgp_trace.specs.Phases.{all_phases}
use Rattle.lgp_trace.specs.declared.account.Account.{Account}
use Rattle.lgp_trace.specs.declared.account.Operand.{Operand}

pub length-waited : (times sign : ℕ) → length (waited times sign) ≡ times
length-waited zero sign = refl
length-waited (suc before) sign = omega (arith, length-append (replicate before (byte ".")) (sign ∷ []), length-replicate before (byte "."))

pub length-seek_signs : (operand : Option Operand) (stored : Option ℕ) (times : ℕ) → length (seek_signs operand stored times) ≡ times
length-seek_signs None stored times = length-replicate times (byte "-")
length-seek_signs (Some operand) stored times = length-waited _ _

-- the signs of an account are as many as its word times
pub as_many_signs : (account : Account) → length (signs_of account) ≡ all_phases account.phases
unfolding signs_of
as_many_signs account =
    let phases = account.phases in
    let found = waited phases.find (byte "F") in
    let taken = replicate phases.take (byte "i") in
    let sought = seek_signs account.operand (stored_address account.order) phases.seek in
    let acted = replicate phases.act (byte "x") in
    omega (
      arith,
      length-append found (taken ++ (sought ++ acted)),
      length-append taken (sought ++ acted),
      length-append sought acted,
      length-waited phases.find (byte "F"),
      length-replicate phases.take (byte "i"),
      length-seek_signs account.operand (stored_address account.order) phases.seek,
      length-replicate phases.act (byte "x"),
    )

-- signs after others
pub signs_in_rows-append : (clock : ℕ) (before after : List ℕ) → signs_in_rows clock (before ++ after) ≡ signs_in_rows clock before ++ signs_in_rows (clock + length before) after
signs_in_rows-append clock [] after = ap (λ (c : ℕ). signs_in_rows c after) (omega arith)
signs_in_rows-append clock (sign ∷ more) after =
    let on : clock + 1 + length more ≡ clock + length (sign ∷ more) = omega arith in
    ap (λ (t : List ℕ). sign_in_row clock sign ++ t) (signs_in_rows-append (clock + 1) more after ∙ ap (λ (c : ℕ). signs_in_rows (clock + 1) more ++ signs_in_rows c after) on)
    ∙ sym (append_assoc (sign_in_row clock sign) (signs_in_rows (clock + 1) more) (signs_in_rows (clock + length (sign ∷ more)) after))

-- signs after a given number of others, after a text
pub rows_after : (text before after : List ℕ) (clock count : ℕ) → length before ≡ count → (text ++ signs_in_rows clock before) ++ signs_in_rows (clock + count) after ≡ text ++ signs_in_rows clock (before ++ after)
rows_after text before after clock count counted =
    append_assoc text (signs_in_rows clock before) (signs_in_rows (clock + count) after)
    ∙ ap (λ (c : ℕ). text ++ (signs_in_rows clock before ++ signs_in_rows (clock + c) after)) (sym counted)
    ∙ ap (λ (t : List ℕ). text ++ t) (sym (signs_in_rows-append clock before after))

single : (clock sign : ℕ) → signs_in_rows clock (sign ∷ []) ≡ sign_in_row clock sign
single clock sign = append-nil (sign_in_row clock sign)

-- one sign more
pub sign_more : (text : List ℕ) (clock count sign : ℕ) → (text ++ signs_in_rows clock (replicate count sign)) ++ sign_in_row (clock + count) sign ≡ text ++ signs_in_rows clock (replicate (count + 1) sign)
sign_more text clock count sign =
    ap (λ (t : List ℕ). (text ++ signs_in_rows clock (replicate count sign)) ++ t) (sym (single _ _))
    ∙ rows_after _ _ _ _ _ (length-replicate count sign)
    ∙ ap (λ (t : List ℕ). text ++ signs_in_rows clock t) (replicate_more _ _)

-- a wait: dots, and the sign at its end
pub wait_done : (text : List ℕ) (clock times sign : ℕ) → 0 < times → (text ++ signs_in_rows clock (replicate (times - 1) (byte "."))) ++ sign_in_row (clock + (times - 1)) sign ≡ text ++ signs_in_rows clock (waited times sign)
wait_done text clock zero sign some = absurd (omega arith)
wait_done text clock (suc before) sign some =
    let one_less : suc before - 1 ≡ before = omega arith in
    rw one_less (ap (λ (t : List ℕ). (text ++ signs_in_rows clock (replicate before (byte "."))) ++ t) (sym (single _ _))
    ∙ rows_after _ _ _ _ _ (length-replicate before (byte ".")))

-- the four phases one after the other
pub account_drawn : (text : List ℕ) (clock : ℕ) (account : Account)
    → (((text ++ signs_in_rows clock (waited account.phases.find (byte "F")))
    ++ signs_in_rows (clock + account.phases.find) (replicate account.phases.take (byte "i")))
    ++ signs_in_rows (clock + account.phases.find + account.phases.take) (seek_signs account.operand (stored_address account.order) account.phases.seek))
    ++ signs_in_rows (clock + account.phases.find + account.phases.take + account.phases.seek) (replicate account.phases.act (byte "x"))
    ≡ text ++ signs_in_rows clock (signs_of account)
unfolding signs_of
account_drawn text clock account =
    let phases = account.phases in
    let found = waited phases.find (byte "F") in
    let taken = replicate phases.take (byte "i") in
    let sought = seek_signs account.operand (stored_address account.order) phases.seek in
    let acted = replicate phases.act (byte "x") in
    rows_after ((text ++ signs_in_rows clock found) ++ signs_in_rows (clock + phases.find) taken) sought acted (clock + phases.find + phases.take) phases.seek (length-seek_signs account.operand (stored_address account.order) _)
    ∙ rows_after (text ++ signs_in_rows clock found) _ (sought ++ acted) (clock + phases.find) _ (length-replicate phases.take (byte "i"))
    ∙ rows_after text found _ _ _ (length-waited _ (byte "F"))

pub ruleset rows = (sign_more, append-nil)

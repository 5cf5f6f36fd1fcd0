-- The text of a paper, a code more; and its upper signs.
use Rattle.std.proofs.Common.{◌≡◌, ℕ, ◌<◌, ◌+◌, ◌++◌, Bool, true, List, ◌∷◌, length, drop, get_or, Option, Some, None, refl, sym, ap, subst, ◌∙◌, arith}
use Rattle.std.proofs.lemmas.List.{append_assoc, drop_more}
use Rattle.lgp_flexo.specs.Archive.{code_of_archived}
use Rattle.lgp_flexo.specs.Code.{IsCode, code_at, sign_at}
use Rattle.lgp_flexo.proofs.Writing.{all_below, all_below-at, found-code, is_piece}
use Rattle.lgp_exchange.specs.Paper.{Carriage, carriage_after, completed, paper_from, sign_struck}

pub paper_more : (text whole codes : List ℕ) (i code : ℕ) (at : Carriage) → i < length codes → code ≡ get_or codes i code
    → text ++ paper_from at (drop i codes) ≡ whole
    → (text ++ completed at code) ++ paper_from (carriage_after at code) (drop (i + 1) codes) ≡ whole
unfolding paper_from
paper_more text whole codes i code at within here so_far =
    append_assoc text (completed at code) (paper_from (carriage_after at code) (drop (i + 1) codes))
    ∙ ap (λ c. text ++ paper_from at (c ∷ drop (i + 1) codes)) here
    ∙ ap (λ cs. text ++ paper_from at cs) (sym (drop_more codes i code within))
    ∙ so_far

-- seen code by code
abbrev is_read : ℕ → Option ℕ → Bool
is_read code (Some sign) = is_piece code (code_of_archived sign)
is_read code None = true

all_read : all_below (λ code. is_read code (sign_struck (true, code))) 64 ≡ true
unfolding sign_at code_at
all_read = refl

pub upper_sign_read : (code sign : ℕ) → IsCode code → sign_struck (true, code) ≡ Some sign → code_of_archived sign ≡ Some code
upper_sign_read code sign is_code e =
    let read : is_read code (sign_struck (true, code)) ≡ true = all_below-at (λ c. is_read c (sign_struck (true, c))) 64 code all_read (omega arith) in
    found-code code (code_of_archived sign) (subst (λ found. is_read code found ≡ true) e read)

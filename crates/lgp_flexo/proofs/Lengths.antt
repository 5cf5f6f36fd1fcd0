-- A text stands for no more codes than it has bytes.
use Rattle.std.proofs.Common.{ℕ, suc, ◌+◌, ◌≤◌, Bool, true, false, cond, Option, Some, None, Result, Ok, Err, IfOk, IfSome, List, [], ◌∷◌, length, length-append, arith}
use Rattle.std.specs.Option.{option_map}
use Rattle.lgp_flexo.specs.Code.{code_at}
use Rattle.lgp_flexo.specs.TapeText.{code_of_group, codes_of_sign, codes_of_text, joined, single, text_from}

IsShort : Result (List ℕ) ℕ → ℕ → Type 0
IsShort r n = IfOk r (λ codes. length codes ≤ n)

-- what stands for one code at most
abbrev One : Option (List ℕ) → Type 0
One piece = IfSome piece (λ codes. length codes ≤ 1)

One-single : (o : Option ℕ) → One (option_map single o)
One-single None = tt
One-single (Some code) = omega arith

One-codes_of_sign : (sign : ℕ) → One (codes_of_sign sign)
One-codes_of_sign sign = by_end _ where
  by_end : (b : Bool) → One (cond b (Some []) (option_map single (code_at sign)))
  by_end true = omega arith
  by_end false = One-single (code_at sign)

longer : (r : Result (List ℕ) ℕ) (m n : ℕ) → m ≤ n → IsShort r m → IsShort r n
unfolding IsShort
longer (Ok codes) m n more short = omega arith
longer (Err bad) m n more short = tt

joined-short : (place : ℕ) (piece : Option (List ℕ)) (following : Result (List ℕ) ℕ) (n : ℕ) → One piece → IsShort following n → IsShort (joined place piece following) (suc n)
unfolding IsShort
joined-short place None following n one short = tt
joined-short place (Some codes) (Ok more) n one short = omega (arith, length-append codes more)
joined-short place (Some codes) (Err bad) n one short = tt

-- a group, or a sign by itself
either-short : (t : Bool) (place n : ℕ) (group sign : Option (List ℕ)) (after_group after_sign : Result (List ℕ) ℕ)
    → One group → One sign → IsShort after_group n → IsShort after_sign (suc (suc (suc n)))
    → IsShort (cond t (joined place group after_group) (joined place sign after_sign)) (suc (suc (suc (suc n))))
either-short true place n group sign after_group after_sign one_group one_sign short_group short_sign =
    longer (joined place group after_group) (suc n) (suc (suc (suc (suc n)))) (omega arith) (joined-short _ _ _ n one_group short_group)
either-short false place n group sign after_group after_sign one_group one_sign short_group short_sign =
    joined-short _ _ _ _ one_sign short_sign

text_from-short : (place : ℕ) (text : List ℕ) → IsShort (text_from place text) (length text)
unfolding IsShort text_from
text_from-short place [] = omega arith
text_from-short place (a ∷ []) = joined-short _ _ _ 0 (One-codes_of_sign a) (text_from-short (place + 1) [])
text_from-short place (a ∷ b ∷ []) = joined-short _ _ _ 1 (One-codes_of_sign a) (text_from-short (place + 1) (b ∷ []))
text_from-short place (a ∷ b ∷ c ∷ []) = joined-short _ _ _ 2 (One-codes_of_sign a) (text_from-short (place + 1) (b ∷ c ∷ []))
text_from-short place (a ∷ b ∷ c ∷ d ∷ rest) =
    either-short _ _ _ _ _ _ _
    (One-single (code_of_group b c)) (One-codes_of_sign a) (text_from-short (place + 4) rest) (text_from-short (place + 1) (b ∷ c ∷ d ∷ rest))

pub codes_of_text-short : (text : List ℕ) → IfOk (codes_of_text text) (λ codes. length codes ≤ length text)
unfolding IsShort
codes_of_text-short text = text_from-short 0 _

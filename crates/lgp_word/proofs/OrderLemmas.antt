-- Orders are read from their letters.
use Rattle.std.proofs.Common.{◌≡◌, ℕ, zero, suc, ◌<◌, Option, Some, None, refl, ap, ◌∙◌, arith, eqb, IfSome, option_map, slice_index}
use Rattle.std.proofs.lemmas.List.Quantifiers.{position-Some}
use Rattle.std.proofs.lemmas.Bool.{eqb-true}
use Rattle.lgp_word.specs.Order.{letters, letter_number, op_letter, op_number, op_of, op_of_letter}
use Rattle.lgp_word.specs.declared.order.Op.{Op}
use Rattle.lgp_word.specs.declared.order.Op.TheVariants.{Z, B, Y, R, I, D, N, M, P, E, U, T, H, C, A, S}

-- each letter is read as its order
pub op_of_letter-op_letter : (op : Op) → op_of_letter (op_letter op) ≡ Some op
unfolding op_of_letter op_letter letter_number op_of
op_of_letter-op_letter Z = refl
op_of_letter-op_letter B = refl
op_of_letter-op_letter Y = refl
op_of_letter-op_letter R = refl
op_of_letter-op_letter I = refl
op_of_letter-op_letter D = refl
op_of_letter-op_letter N = refl
op_of_letter-op_letter M = refl
op_of_letter-op_letter P = refl
op_of_letter-op_letter E = refl
op_of_letter-op_letter U = refl
op_of_letter-op_letter T = refl
op_of_letter-op_letter H = refl
op_of_letter-op_letter C = refl
op_of_letter-op_letter A = refl
op_of_letter-op_letter S = refl

-- an order below 16 has its number
op_number-op_of : (number : ℕ) → number < 16 → op_number (op_of number) ≡ number
unfolding op_of
op_number-op_of zero h = refl
op_number-op_of (suc zero) h = refl
op_number-op_of (suc (suc zero)) h = refl
op_number-op_of (suc (suc (suc zero))) h = refl
op_number-op_of (suc (suc (suc (suc zero)))) h = refl
op_number-op_of (suc (suc (suc (suc (suc zero))))) h = refl
op_number-op_of (suc (suc (suc (suc (suc (suc zero)))))) h = refl
op_number-op_of (suc (suc (suc (suc (suc (suc (suc zero))))))) h = refl
op_number-op_of (suc (suc (suc (suc (suc (suc (suc (suc zero)))))))) h = refl
op_number-op_of (suc (suc (suc (suc (suc (suc (suc (suc (suc zero))))))))) h = refl
op_number-op_of (suc (suc (suc (suc (suc (suc (suc (suc (suc (suc zero)))))))))) h = refl
op_number-op_of (suc (suc (suc (suc (suc (suc (suc (suc (suc (suc (suc zero))))))))))) h = refl
op_number-op_of (suc (suc (suc (suc (suc (suc (suc (suc (suc (suc (suc (suc zero)))))))))))) h = refl
op_number-op_of (suc (suc (suc (suc (suc (suc (suc (suc (suc (suc (suc (suc (suc zero))))))))))))) h = refl
op_number-op_of (suc (suc (suc (suc (suc (suc (suc (suc (suc (suc (suc (suc (suc (suc zero)))))))))))))) h = refl
op_number-op_of (suc (suc (suc (suc (suc (suc (suc (suc (suc (suc (suc (suc (suc (suc (suc zero))))))))))))))) h = refl
op_number-op_of (suc (suc (suc (suc (suc (suc (suc (suc (suc (suc (suc (suc (suc (suc (suc (suc n)))))))))))))))) h = absurd (omega arith)

-- an order that is read from a byte has that letter
op_letter-letter_number : (byte : ℕ) (found : Option ℕ) → letter_number byte ≡ found → IfSome (option_map op_of found) (λ op. op_letter op ≡ byte)
unfolding letter_number op_letter
op_letter-letter_number byte None e = tt
op_letter-letter_number byte (Some number) e =
    let found = position-Some (λ letter. eqb letter byte) letters number 0 e in
    ap (slice_index letters) (op_number-op_of _ found.0) ∙ eqb-true _ _ found.1

-- the same of the answer of a reader
pub IfSome-op_of_letter : (answer : Option Op) (byte : ℕ) → answer ≡ op_of_letter byte → IfSome answer (λ op. op_letter op ≡ byte)
unfolding op_of_letter
IfSome-op_of_letter answer byte e = rw e (op_letter-letter_number _ _ refl)

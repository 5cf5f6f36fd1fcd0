-- Bytes in which nothing lies are cut, and are room for a value of a type that they hold.
use Rattle.std.proofs.Common.{◌≡◌, ℕ, ◌+◌, ◌-◌, ◌*◌, ◌/◌, ◌%◌, ◌≤◌, max, [], ◌∷◌, refl, sym, subst, ◌∙◌, arith}
use Rattle.std.proofs.Calls.{aligned}
use Rattle.std.proofs.Math.Nat.{zero-mod, sub-zero, mod_self}
use Rattle.std.proofs.lemmas.Nat.Gcd.{le_of_dvd}
use seplogic.Ra.Ura.{Ura}
use mir.Syntax.{Ty, Tys, tnil, tcons, ty_struct}
use base.Logic.{SProp, ent, sep, wand, emp, via, fst∗, comm∗, mono_r, wand_i, comm≡, unit≡, apply∗}
use prog.Memory.{size, align, aligns, up}
use prog.Model.{rooms_at}
use prog.Align.{Dv, dv→∣}
use types.Logic.{Logic}
use types.Kit.{raw, ◌⊛◌, ◌$◌, ◌∵◌, !, qed, by, use1, use2, split, frame, assume}
use Rattle.lgp_region.specs.Room.{units_of}

-- a value at the start of units: nothing lies before it, and their alignment is enough for it
no_offset : (type : Ty) → up (align type) 0 ≡ 0
no_offset type = rw (zero-mod (align type), sub-zero (align type), mod_self (align type)) refl

unit_alignment : (type : Ty) → max (align type) 16 ≡ 16
unit_alignment type = omega (arith, le_of_dvd {n = 16} (omega arith) (dv→∣ (align type) 16 (aligned type)))

module _ {M : Type 1} {𝓤 : Ura M} (𝓛 : Logic 𝓤) where
  -- P can be had as Q: with Q there is a way back to P
  abbrev pub Lends : SProp 𝓤 → SProp 𝓤 → Type 1
  Lends P Q = ent 𝓤 P (sep 𝓤 Q (wand 𝓤 Q P))

  lends_on : (P Q R : SProp 𝓤) → Lends P Q → Lends Q R → Lends P R
  lends_on P Q R first next =
      qed 𝓛 (raw P ∷ []) ∵ use1 𝓛 (raw Q ⊛ raw (wand 𝓤 Q P)) first $ split ! $ use1 𝓛 (raw R ⊛ raw (wand 𝓤 R Q)) next $ split ! $
      frame ! $ assume {P = P} ! (raw R) $ use2 𝓛 (raw Q) (apply∗ 𝓤 R Q) $ by ! (apply∗ 𝓤 Q P)

  alone : (P : SProp 𝓤) → sep 𝓤 P (emp 𝓤) ≡ P
  alone P = comm≡ 𝓤 P (emp 𝓤) ∙ unit≡ 𝓤 P

  module _ (b : ℕ) where
    open 𝓛 use {H}

    -- room for n bytes from o on
    abbrev pub bytes : ℕ → ℕ → SProp 𝓤
    bytes o n = H.room (units_of n) b o

    -- n bytes as room for a value that takes m of them, and the bytes after it
    front : (type : Ty) (o m n : ℕ) → up 16 (size type) ≡ m → m ≤ n → Lends (bytes o n) (sep 𝓤 (H.room type b o) (bytes (o + m) (n - m)))
    front type o m n takes within =
        let fields : Tys = tcons type (tcons (units_of (n - m)) tnil) in
        let both : Ty = ty_struct [] fields in
        let unit : aligns fields ≡ 16 = unit_alignment type in
        let start : up (align type) 0 ≡ 0 = no_offset type in
        let all : size both ≡ n / 16 * 16 = (λ i. up (unit i) (up 16 (start i + size type) + (n - m) / 16 * 16)) ∙ omega arith in
        let here : o + up (align type) 0 ≡ o = omega arith in
        let rest : o + up 16 (up (align type) 0 + size type) ≡ o + m = omega arith in
        let parts : rooms_at 𝓤 H fields 0 b o ≡ sep 𝓤 (H.room type b o) (bytes (o + m) (n - m)) =
        λ i. sep 𝓤 (H.room type b (here i)) (alone (bytes (rest i) (n - m)) i) in
        lends_on _ _ (sep 𝓤 (H.room type b o) (bytes (o + m) (n - m)))
        (𝓛.laws.room_as (units_of n) both b o all (subst (λ (k : ℕ). Dv k 16) (sym unit) tt))
        (subst (Lends (H.room both b o)) parts (𝓛.laws.room_fields [] fields b o))

    -- the first m of n bytes, and those after them
    pub bytes_cut : (o m n : ℕ) → m % 16 ≡ 0 → m ≤ n → ent 𝓤 (bytes o n) (sep 𝓤 (bytes o m) (bytes (o + m) (n - m)))
    bytes_cut o m n whole within =
        let Both : SProp 𝓤 = sep 𝓤 (bytes o m) (bytes (o + m) (n - m)) in
        via 𝓤 (sep 𝓤 Both (wand 𝓤 Both (bytes o n))) (front (units_of m) o m n (omega arith) within) (fst∗ 𝓤 Both (wand 𝓤 Both (bytes o n)))

    -- whole units lend room for a value that they hold
    pub value_room : (type : Ty) (o n : ℕ) → n % 16 ≡ 0 → size type ≤ n → Lends (bytes o n) (H.room type b o)
    value_room type o n whole fits =
        let m : ℕ = up 16 (size type) in let Value : SProp 𝓤 = H.room type b o in let Rest : SProp 𝓤 = bytes (o + m) (n - m) in
        lends_on _ _ Value (front type o m n refl (omega arith)) (mono_r 𝓤 Value (wand_i 𝓤 Rest Value (sep 𝓤 Value Rest) (comm∗ 𝓤 Rest Value)))

-- What `take` answers is room for the value that the request is for, with the right to give its block back, or there is none.
use Rattle.std.proofs.Common.{◌≡◌, ℕ, ◌^◌, ◌<◌, ◌≤◌, List, [], ◌∷◌, IfSome, None, Some, inl, inr, refl, sym, ap, subst, ◌∙◌, arith}
use seplogic.Ra.Ura.{Ura}
use mir.Syntax.{Ty}
use mir.Val.{Val, vcons, vnil}
use base.Logic.{SProp, ent, sep, wand, via, mono_r, guard_i, id⊢, never}
use base.Fml.{ftrue, froom}
use prog.Memory.{size, capped}
use prog.Capped.{capped_is, capped_small}
use types.Logic.{Logic, sem}
use types.Kit.{Item, Goal, Seq, ‵, given, ◌⊛◌, ◌$◌, move, drop, use1, learn, rewrite, fsplit}
use types.Match.{live}
use denote.RattleType.{RattleType}
use denote.RawPtr.{Ptr, block_ptr, in_a_block}
use denote.Steps.{only}
use denote.Enum.Laws.{Laws}
use denote.Enum.Rest.{live_own, own_open}
use Rattle.std.specs.contracts.option.Option as option
use Rattle.lgp_region.specs.Room.{bytes_at, block_size, block_token}
use Rattle.lgp_region.specs.contracts.block.Block as block
use Rattle.lgp_region.proofs.BlockValue.{block_val, block_laws}
use Rattle.lgp_region.proofs.UnitLemmas.{bytes, value_room}

-- what `take` answers
abbrev pub Answered : RattleType
Answered = option.the_row block.the_row

-- what it says of that, for a request of this size and alignment
abbrev pub IsFor : ℕ → ℕ → Answered.Denot → Type 0
IsFor asked alignment answer =
    IfSome answer (λ b. (b.size ≡ block_size asked) × (asked ≤ block_size asked) × (asked < 2 ^ 63) × (alignment ≤ 16))

abbrev answer_laws : Laws (option.the_type block.the_row)
answer_laws = (tt, ((block_laws, tt), tt))

module _ {M : Type 1} {𝓤 : Ura M} (𝓛 : Logic 𝓤) where
  open 𝓛 use {H}

  -- the block of a request for a value is room for it, and the way back to the block is the token
  for_value : (type : Ty) (b o : ℕ) → size type < 2 ^ 63 → size type ≤ block_size (size type)
      → ent 𝓤 (bytes 𝓛 b o (block_size (size type))) (sep 𝓤 (H.room type b o) (sem 𝓛 (block_token type (block_ptr b o))))
  for_value type b o short fits =
      let Value : SProp 𝓤 = H.room type b o in let Back : SProp 𝓤 = wand 𝓤 Value (bytes 𝓛 b o (block_size (size type))) in
      via 𝓤 (sep 𝓤 Value Back) (value_room 𝓛 b _ o (block_size (size type)) (omega arith) fits) (mono_r 𝓤 Value (guard_i 𝓤 (size type < 2 ^ 63) Back short))

module _ {M : Type 1} {𝓤 : Ura M} {𝓛 : Logic 𝓤} {K : Type 0} {Γ : List (Item 𝓤)} {G : Goal 𝓤 𝓛.H} where
  pub taken : K → (type : Ty) (n a : ℕ) (answer : Answered.Denot) (v : Val) → capped (size type) ≡ n → IsFor n a answer
      → ((b o : ℕ) → v ≡ live 1 (vcons (block_val (block_ptr b o)) vnil) → Seq K 𝓛 ((‵ (froom type b o) ⊛ ‵ (block_token type (block_ptr b o))) ∷ Γ) G)
      → (v ≡ live 0 vnil → Seq K 𝓛 Γ G) → Seq K 𝓛 (‵ (Answered.own_val answer (v ∷ [])) ∷ Γ) G
  taken t type n a None v asked known some none =
      use1 𝓛 (given (v ∷ [] ≡ live 0 vnil ∷ []) (‵ ftrue)) (own_open 𝓛 (option.the_type block.the_row) answer_laws (inl tt) v) $
      learn t (λ is. drop t $ none (ap only is))
  taken t type n a (Some x) v asked known some none =
      let short : size type < 2 ^ 63 = capped_small (size type) (omega (arith, known.2)) in
      let same : n ≡ size type = sym asked ∙ capped_is (size type) (omega arith) in
      use1 𝓛 (given (v ∷ [] ≡ live 1 (vcons (block_val x.at) vnil) ∷ []) (‵ (live_own (option.the_type block.the_row).parts answer_laws (inr (inl (x, tt))))))
      (own_open 𝓛 (option.the_type block.the_row) answer_laws (inr (inl (x, tt))) v) $
      learn t (λ is. fsplit t $ move t (1 ∷ []) $ drop t $ fsplit t $ drop t $
      rewrite t 0 (λ (k : ℕ). ‵ (bytes_at x.at k)) (known.0 ∙ ap block_size same) refl $
      in_a_block t x.at (λ p. bytes_at p (block_size (size type))) (id⊢ 𝓤 (never 𝓤)) (λ b o at.
      use1 𝓛 (‵ (froom type b o) ⊛ ‵ (block_token type (block_ptr b o)))
      (for_value 𝓛 _ b o short (subst (λ (k : ℕ). k ≤ block_size k) same known.1)) $
      some b o (ap only is ∙ ap (λ (p : Ptr). live 1 (vcons (block_val p) vnil)) at)))

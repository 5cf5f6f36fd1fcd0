-- The machine value of a slot, and what it owns: the box of its session, or nothing.
use Rattle.std.proofs.Common.{◌≡◌, ℕ, Bool, true, false, Option, None, Some, List, [], ◌∷◌, ◌++◌, refl, subst, lit<}
use lib.Dec.{T}
use mathlib.Core.Bool.{◌&&◌}
use seplogic.Ra.Ura.{Ura}
use mir.Syntax.{static, ty_ptr, impl, tnil, dnil}
use mir.Val.{Val, vbool, vstruct, vcons, vnil, of_list, has_ty, WT}
use base.Logic.{never, never_e, fst∗}
use base.Fml.{ftrue, ffalse}
use mir.Raw.{raw as bare}
use types.Logic.{Logic, sem}
use types.Kit.{given, learn, use1, Item, Goal, Seq, Step, step, ‵, ◌$◌, drop, fsplit, fjoin, fpick, fpack, feq_i, feq_l}
use denote.RattleType.{RattleType, Valss}
use denote.Builtin.{RawPtr, bool}
use denote.Param.Laws.{of_field}
use denote.Param.Shared.{copy_shared}
use denote.RawPtr.{Ptr, ptr_val, block_ptr, null_ptr, in_a_block}
use denote.Steps.{nothing}
use denote.Struct.Field.{Field, shr_ref_field}
use denote.Struct.Laws.{shr_ref_laws, shr_ref_copy}
use denote.Struct.Struct.{within}
use denote.Struct.Owning.{shape}
use Rattle.std.proofs.alloc.Calls.{token, Fits}
use Rattle.std.proofs.BoxSteps.Form.{Bx, X, R, τ}
use Rattle.std.specs.Box.Ownership.{box_owns}
use Rattle.std.specs.contracts.prelude.RefAllocator.TheImpl as lent
use Rattle.std.specs.contracts.prelude.RefClone.TheImpl as copied
use Rattle.lgp_call.proofs.session.Session.TheLaws as session_laws
use Rattle.lgp_parts.specs.contracts.parts.BoxParts as parts
use Rattle.lgp_parts.specs.contracts.unfreed.Unfreed as unfreed
use Rattle.lgp_parts.specs.contracts.unfreed.UnfreedAllocator.TheImpl.{ghosts, dict}
use Rattle.lgp_parts.proofs.unfreed.Unfreed.TheLaws as unfreed_laws
use Rattle.lgp_region.specs.contracts.region.Region as region
use Rattle.lgp_region.specs.contracts.region.RegionAllocator.TheImpl as regions
use Rattle.lgp_region.proofs.region.Region.TheLaws as region_laws
use Rattle.lgp_c_region.specs.contracts.slot.Slot as slot
use Rattle.lgp_c_region.specs.Slots.{the_region, the_session, slot_owns}

-- a reference to a lasting region, as a part of a session
abbrev lasting : Field
lasting = shr_ref_field (record { mir = static; lft = [] }) region.the_row tt

-- the box, its allocator and its value
abbrev pub E : Bx
E = record {
  row = the_session;
  laws = session_laws.the_row_laws the_region (lent.ghosts region.the_row regions.ghosts lent.no_dict lent.no_dict) (copied.ghosts region.the_row)
      (of_field lasting (shr_ref_laws (record { mir = static; lft = [] }) region.the_row tt) refl
      (copy_shared lasting (shr_ref_copy (record { mir = static; lft = [] }) region.the_row tt (region_laws.the_row_laws).shr_laws)));
  al = record { row = unfreed.the_row; laws = unfreed_laws.the_row_laws; g = ghosts; d = dict; drops = impl [] tnil dnil };
}

abbrev pub Parts : RattleType
Parts = parts.the_row E.row E.al.row ghosts

-- the allocator that has no memory
abbrev pub none : Val
none = vstruct vnil

pub none_fits : Fits E.al none
none_fits = (tt, tt)

abbrev pub slot_val : Bool → Val → Val
slot_val is_open at = vstruct (vcons (vbool is_open) (vcons at vnil))

pub ptr_typed : (at : Ptr) → T (has_ty ty_ptr (ptr_val at)) × WT (ptr_val at)
ptr_typed (block_ptr b o) = (tt, tt)
ptr_typed null_ptr = (tt, record { fits = lit< tt })

pub slot_typed : (is_open : Bool) (at : Ptr) → T (has_ty ty_ptr (ptr_val at) && true) × (Unit {0} × (WT (ptr_val at) × Unit {0}))
slot_typed is_open (block_ptr b o) = (tt, (tt, (tt, tt)))
slot_typed is_open null_ptr = (tt, (tt, (record { fits = lit< tt }, tt)))

module _ {M : Type 1} {𝓤 : Ura M} {𝓛 : Logic 𝓤} {K : Type 0} {Γ : List (Item 𝓤)} {G : Goal 𝓤 𝓛.H} where
  pub slot_out : K → (d : (slot.the_row).Denot) (vs : List Val)
      → (vs ≡ slot_val d.is_open (ptr_val d.at) ∷ [] → Seq K 𝓛 (‵ (slot_owns d.is_open d.at d.held) ∷ Γ) G)
      → Seq K 𝓛 (‵ ((slot.the_row).own_val d vs) ∷ Γ) G
  slot_out t d vs k =
      fsplit t $ fpick t (λ vss. fsplit t $ feq_l t (λ ev. fsplit t $ feq_l t (λ eb. fsplit t $ feq_l t (λ ep. drop t $
      k (subst (λ (ps : List Val). vs ≡ vstruct (of_list (vbool d.is_open ∷ (ps ++ []))) ∷ []) ep
      (subst (λ (bs : List Val). vs ≡ vstruct (of_list (bs ++ (vss.1.0 ++ []))) ∷ []) eb ev))))))

  pub slot_in : K → (d : (slot.the_row).Denot)
      → Step K 𝓛 (‵ ((slot.the_row).own_val d (slot_val d.is_open (ptr_val d.at) ∷ [])) ∷ Γ) G (‵ (slot_owns d.is_open d.at d.held) ∷ Γ) G
  slot_in t d = step (λ s.
      let v : Val = slot_val d.is_open (ptr_val d.at) in
      nothing t $ feq_i t (List Val) (ptr_val d.at ∷ []) (ptr_val d.at ∷ []) refl $ fjoin t $
      feq_i t (List Val) (vbool d.is_open ∷ []) (vbool d.is_open ∷ []) refl $ fjoin t $ feq_i t (List Val) (v ∷ []) (v ∷ []) refl $ fjoin t $
      fpack t (Valss (bool ∷ RawPtr ∷ [])) (within (shape slot.the_type) (d.is_open, (d.at, tt)) (v ∷ [])) (vbool d.is_open ∷ [], (ptr_val d.at ∷ [], tt)) $ fjoin t $ s)

  never_so : K → Seq K 𝓛 (‵ ffalse ∷ Γ) G
  never_so t = use1 𝓛 (given ⊥ (‵ ftrue)) (never_e 𝓤 _) $ learn t (λ wrong. absurd wrong)

  -- a slot is empty, or owns a box
  pub slot_cases : K → (is_open : Bool) (at : Ptr) (held : Option (X E))
      → (is_open ≡ false → held ≡ None → Seq K 𝓛 Γ G)
      → ((b o : ℕ) (x : X E) → is_open ≡ true → held ≡ Some x → at ≡ block_ptr b o → Seq K 𝓛 (‵ (box_owns (token E.al (record {})) (R E) (block_ptr b o) x) ∷ Γ) G)
      → Seq K 𝓛 (‵ (slot_owns is_open at held) ∷ Γ) G
  slot_cases t false at None empty one = drop t $ empty refl refl
  slot_cases t false at (Some x) empty one = never_so t
  slot_cases t true at None empty one = never_so t
  slot_cases t true at (Some x) empty one =
      in_a_block t at (λ p. box_owns (token E.al (record {})) (R E) p x) (fst∗ 𝓤 (never 𝓤) (sem 𝓛 (token E.al (record {}) (bare (τ E)) null_ptr))) (λ b o is. one b o x refl refl is)

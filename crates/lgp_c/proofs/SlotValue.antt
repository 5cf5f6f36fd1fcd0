-- The machine value of a slot, and what it owns: the box of its session, or nothing.
use Rattle.std.proofs.Common.{◌≡◌, ℕ, Bool, true, false, Option, None, Some, Global, List, [], ◌∷◌, ◌++◌, refl, subst, lit<}
use lib.Dec.{T}
use mathlib.Core.Bool.{◌&&◌}
use seplogic.Ra.Ura.{Ura}
use mir.Syntax.{ty_ptr, impl, tnil, dnil}
use mir.Val.{Val, vbool, vstruct, vcons, vnil, of_list, has_ty, WT}
use base.Logic.{never, never_e, fst∗}
use base.Fml.{ftrue, ffalse}
use mir.Raw.{raw as bare}
use types.Logic.{Logic, sem}
use types.Kit.{given, learn, use1, Item, Goal, Seq, Step, step, ‵, ◌$◌, move, drop, fsplit, fjoin, fpick, fpack, feq_i, feq_l}
use denote.RattleType.{RattleType, Valss}
use denote.Builtin.{RawPtr, bool}
use denote.RawPtr.{Ptr, ptr_val, block_ptr, null_ptr, in_a_block}
use denote.Steps.{nothing}
use denote.Struct.Struct.{within}
use denote.Struct.Owning.{shape}
use Rattle.std.proofs.alloc.Calls.{handle_tells, Fits, token, α}
use Rattle.std.proofs.ResultValues.{and_tt}
use Rattle.std.proofs.BoxSteps.Form.{Bx, X, R, τ}
use Rattle.std.specs.Box.Ownership.{box_owns}
use Rattle.std.specs.contracts.alloc.Global as heap
use Rattle.std.proofs.alloc.Global.TheLaws as heap_laws
use Rattle.std.specs.contracts.impls.GlobalAllocator.TheImpl.{ghosts, dict}
use Rattle.lgp_call.proofs.session.Session.TheLaws as session_laws
use Rattle.std.below.core.specs.contracts.clone.Clone+copy.TheImpl as copied
use Rattle.lgp_parts.specs.contracts.parts.BoxParts as parts
use Rattle.lgp_c.specs.contracts.slot.Slot as slot
use Rattle.lgp_c.specs.Slots.{the_session, slot_owns}

-- the box, its allocator and its value
abbrev pub E : Bx
E = record { row = the_session; laws = session_laws.the_row_laws heap.the_row ghosts (copied.ghosts heap.the_row) heap_laws.the_row_laws; al = record { row = heap.the_row; laws = heap_laws.the_row_laws; g = ghosts; d = dict; drops = impl [] tnil dnil } }

abbrev pub Parts : RattleType
Parts = parts.the_row E.row E.al.row ghosts

abbrev pub slot_val : Bool → Val → Val → Val
slot_val is_open at h = vstruct (vcons (vbool is_open) (vcons at (vcons h vnil)))

pub ptr_typed : (at : Ptr) → T (has_ty ty_ptr (ptr_val at)) × WT (ptr_val at)
ptr_typed (block_ptr b o) = (tt, tt)
ptr_typed null_ptr = (tt, record { fits = lit< tt })

pub slot_typed : (is_open : Bool) (at : Ptr) (h : Val) → Fits E.al h → T (has_ty ty_ptr (ptr_val at) && (has_ty (α E.al) h && true)) × (Unit {0} × (WT (ptr_val at) × (WT h × Unit {0})))
slot_typed is_open (block_ptr b o) h fits = (and_tt (has_ty (α E.al) h) fits.0, (tt, (tt, (fits.1, tt))))
slot_typed is_open null_ptr h fits = (and_tt (has_ty (α E.al) h) fits.0, (tt, (record { fits = lit< tt }, (fits.1, tt))))

module _ {M : Type 1} {𝓤 : Ura M} {𝓛 : Logic 𝓤} {K : Type 0} {Γ : List (Item 𝓤)} {G : Goal 𝓤 𝓛.H} where
  pub slot_out : K → (d : (slot.the_row).Denot) (vs : List Val)
      → ((h : Val) → vs ≡ slot_val d.is_open (ptr_val d.at) h ∷ [] → Fits E.al h
      → Seq K 𝓛 (‵ (slot_owns d.alloc d.is_open d.at d.held) ∷ ‵ ((E.al.row).own_val d.alloc (h ∷ [])) ∷ Γ) G)
      → Seq K 𝓛 (‵ ((slot.the_row).own_val d vs) ∷ Γ) G
  slot_out t d vs k =
      fsplit t $ fpick t (λ vss. fsplit t $ feq_l t (λ ev. fsplit t $ feq_l t (λ eb. fsplit t $ feq_l t (λ ep. fsplit t $ handle_tells E.al t d.alloc vss.1.1.0 (λ h ea fits.
      move t (1 ∷ []) $ drop t $ move t (1 ∷ []) $
      k h (subst (λ (ws : List Val). vs ≡ vstruct (of_list (vbool d.is_open ∷ (ptr_val d.at ∷ (ws ++ [])))) ∷ []) ea
      (subst (λ (ps : List Val). vs ≡ vstruct (of_list (vbool d.is_open ∷ (ps ++ (vss.1.1.0 ++ [])))) ∷ []) ep
      (subst (λ (bs : List Val). vs ≡ vstruct (of_list (bs ++ (vss.1.0 ++ (vss.1.1.0 ++ [])))) ∷ []) eb ev))) fits)))))

  pub slot_in : K → (d : (slot.the_row).Denot) (h : Val)
      → Step K 𝓛 (‵ ((slot.the_row).own_val d (slot_val d.is_open (ptr_val d.at) h ∷ [])) ∷ Γ) G
      (‵ (slot_owns d.alloc d.is_open d.at d.held) ∷ ‵ ((E.al.row).own_val d.alloc (h ∷ [])) ∷ Γ) G
  slot_in t d h = step (λ s.
      let v : Val = slot_val d.is_open (ptr_val d.at) h in
      nothing t $ move t (2 ∷ 0 ∷ []) $ fjoin t $ feq_i t (List Val) (ptr_val d.at ∷ []) (ptr_val d.at ∷ []) refl $ fjoin t $
      feq_i t (List Val) (vbool d.is_open ∷ []) (vbool d.is_open ∷ []) refl $ fjoin t $ feq_i t (List Val) (v ∷ []) (v ∷ []) refl $ fjoin t $
      fpack t (Valss (bool ∷ RawPtr ∷ E.al.row ∷ [])) (within (shape slot.the_type) (d.is_open, (d.at, (((d.alloc.memory.seal, tt), tt), tt))) (v ∷ [])) (vbool d.is_open ∷ [], (ptr_val d.at ∷ [], (h ∷ [], tt))) $ fjoin t $ s)

module _ {M : Type 1} {𝓤 : Ura M} {𝓛 : Logic 𝓤} {K : Type 0} {Γ : List (Item 𝓤)} {G : Goal 𝓤 𝓛.H} where
  never_so : K → Seq K 𝓛 (‵ ffalse ∷ Γ) G
  never_so t = use1 𝓛 (given ⊥ (‵ ftrue)) (never_e 𝓤 _) $ learn t (λ wrong. absurd wrong)

  -- a slot is empty, or owns a box
  pub slot_cases : K → (alloc : Global) (is_open : Bool) (at : Ptr) (held : Option (X E))
      → (is_open ≡ false → held ≡ None → Seq K 𝓛 Γ G)
      → ((b o : ℕ) (x : X E) → is_open ≡ true → held ≡ Some x → at ≡ block_ptr b o → Seq K 𝓛 (‵ (box_owns (token E.al alloc) (R E) (block_ptr b o) x) ∷ Γ) G)
      → Seq K 𝓛 (‵ (slot_owns alloc is_open at held) ∷ Γ) G
  slot_cases t alloc false at None empty one = drop t $ empty refl refl
  slot_cases t alloc false at (Some x) empty one = never_so t
  slot_cases t alloc true at None empty one = never_so t
  slot_cases t alloc true at (Some x) empty one =
      in_a_block t at (λ p. box_owns (token E.al alloc) (R E) p x) (fst∗ 𝓤 (never 𝓤) (sem 𝓛 (token E.al alloc (bare (τ E)) null_ptr))) (λ b o is. one b o x refl refl is)

-- The parts of a box as a value. They own what the box owns, so the lemmas on a box serve for them.
use Rattle.std.proofs.Common.{◌≡◌, ℕ, List, [], ◌∷◌, ◌++◌, refl, ap, ◌∙◌}
use Rattle.std.proofs.alloc.Calls.{token, Fits, handle_tells}
use Rattle.std.proofs.BoxSteps.Form.{Bx, X, D, R, P, τ, word, handle}
use Rattle.std.proofs.BoxSteps.Steps.{box_in}
use Rattle.std.specs.Box.Ownership.{box_owns}
use Rattle.lgp_parts.specs.contracts.parts.BoxParts as parts
use base.Logic.{never, fst∗, id⊢}
use denote.RattleType.{RattleType}
use denote.RawPtr.{Ptr, RawPtr, block_ptr, null_ptr, ptr_val, in_a_block}
use denote.Steps.{only}
use denote.Struct.Tuple.{Tuple}
use mir.Raw.{raw as bare}
use mir.Val.{Val, vstruct, of_list}
use seplogic.Ra.Ura.{Ura}
use types.Kit.{Item, Goal, Seq, Step, step, ‵, ◌$◌, move, drop, use1, fsplit, fpick, feq_l}
use types.Logic.{Logic, sem}

module _ (E : Bx) where
  abbrev pub Parts : RattleType
  Parts = parts.the_row (R E) (P E) E.al.g

  abbrev pub parts_of : D E → Parts.Denot
  parts_of d = record { at = d.ptr; alloc = d.alloc; value = d.value }

  -- what taking a box apart answers: the pointer and the allocator
  abbrev pub Pair : RattleType
  Pair = Tuple (RawPtr ∷ P E ∷ [])

module _ (E : Bx) {M : Type 1} {𝓤 : Ura M} {𝓛 : Logic 𝓤} {K : Type 0} {Γ : List (Item 𝓤)} {G : Goal 𝓤 𝓛.H} where
  pub parts_in : K → {hv : Val} (b o : ℕ) (alloc : E.al.row.Denot) (x : X E)
      → Step K 𝓛 (‵ ((Parts E).own_val (record { at = block_ptr b o; alloc = alloc; value = x }) (word E hv b o ∷ [])) ∷ Γ) G
      (‵ (box_owns (token E.al alloc) (R E) (block_ptr b o) x) ∷ ‵ (handle E alloc hv) ∷ Γ) G
  parts_in t {hv} b o alloc x = step (λ s.
      let d : D E = record { ptr = block_ptr b o; alloc = alloc; value = x } in
      fsplit t $ box_in E t {hv = hv} d b o x refl refl $
      use1 𝓛 (‵ ((Parts E).own_val (parts_of E d) (word E hv b o ∷ []))) (id⊢ 𝓤 _) $ s)

  -- the pair, where its allocator is known, with what lies at its pointer
  pub pair_out : K → (p : Ptr) (alloc : E.al.row.Denot) (x : X E) (u : Val)
      → ((b o : ℕ) (hv : Val) → p ≡ block_ptr b o → u ≡ word E hv b o → Fits E.al hv
      → Seq K 𝓛 (‵ (box_owns (token E.al alloc) (R E) (block_ptr b o) x) ∷ ‵ (handle E alloc hv) ∷ Γ) G)
      → Seq K 𝓛 (‵ (box_owns (token E.al alloc) (R E) p x) ∷ ‵ ((Pair E).own_val (p, alloc) (u ∷ [])) ∷ Γ) G
  pair_out t p alloc x u k =
      in_a_block t p (λ q. box_owns (token E.al alloc) (R E) q x) (fst∗ 𝓤 (never 𝓤) (sem 𝓛 (token E.al alloc (bare (τ E)) null_ptr))) (λ b o at.
      move t (1 ∷ []) $ fpick t (λ vss. fsplit t $ feq_l t (λ is. fsplit t $ feq_l t (λ first. fsplit t $ handle_tells E.al t alloc vss.1.0 (λ hv second fits.
      move t (1 ∷ []) $ drop t $ move t (1 ∷ []) $
      k b o hv at (ap only (is ∙ (λ j. vstruct (of_list ((first ∙ ap (λ (q : Ptr). ptr_val q ∷ []) at) j ++ (second j ++ []))) ∷ []))) fits)))))

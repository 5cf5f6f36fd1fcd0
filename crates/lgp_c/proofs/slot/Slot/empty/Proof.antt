-- `empty` makes a slot that owns nothing.
use Rattle.std.proofs.Common.{◌≡◌, false, None, List, [], ◌∷◌, ◌++◌, refl, lit<}
use Rattle.std.proofs.raw_atomic.Walks.{proved_at, leaves}
use base.Logic.{SProp, emp}
use contract.Monad.{fact, fact_i}
use contract.Running.{tables}
use denote.RattleType.{owns}
use denote.RawPtr.{null_ptr, ptr_val}
use denote.Signature.{plain, types_at}
use denote.Steps.{nothing}
use denote.Triple.Entry.{alive}
use denote.Triple.Walked.{Stays, stay_dropped, walk_of, Goes-dropped}
use mir.Val.{Val, has_ty}
use prog.Wp.{WpFn}
use types.ByLocal.{alloc_all, pass_all, free_all, look_at, get, sets}
use types.Kit.{‵, raw, ◌⊛◌, prop, ◌$◌, ◌∵◌, !, qed, by, move, keep, drop, use0, split, regoal, fsplit, fjoin}
use types.Part.{agg}
use types.Run.{enter, lit, false_lit, no_more, and_then, returns}
use Rattle.std.proofs.alloc.Calls.{handle_tells, α}
use Rattle.std.proofs.ResultValues.{and_tt}
use Rattle.lgp_c.specs.contracts.slot.Slot as slot
use Rattle.lgp_c.specs.contracts.slot.Slot.empty as f
use Rattle.lgp_c.proofs.slot.Slot.empty.Statement.{statement}
use Rattle.lgp_c.proofs.slot.Slot.empty.Code as code
use Rattle.lgp_c.proofs.SlotValue.{E, slot_val, slot_in}

abbrev stayed : Stays f.ended.signature.params f.ended.kept
stayed = (stay_dropped (plain (λ _. E.al.row)) f.ended.kept.0, tt)

pub empty_spec : {M : Type 1} → statement M
empty_spec 𝓤 𝓛 𝓜 𝓡 wired =
    let c = f.clauses 𝓛 𝓜.mem 𝓡.returns in
    let 𝓣 = tables 𝓤 𝓛.H 𝓜 𝓡 𝓡.env in
    proved_at 𝓛 f.ended stayed c 𝓜 𝓡 (Goes-dropped 𝓛 0 (plain (λ _. E.al.row)) f.ended.kept.0 (λ κs x w. refl), tt)
    f.Key.name code.function (code.unfolded 𝓤 𝓛.H 𝓜 𝓡 wired) (λ z are.
    let Post : Val → SProp 𝓤 = (walk_of 𝓛 f.ended stayed c).post z in
    let alloc = z.0.3.0 in
    qed 𝓛 ((raw (alive 𝓛 f.signature z.0.0 z.0.1) ⊛ ‵ (owns (types_at f.signature.params z.0.0) z.0.3 z.0.4)) ∷ raw (emp 𝓤) ∷ []) ∵
    split ! $ move ! (1 ∷ []) $ fsplit ! $ handle_tells E.al ! alloc z.0.4.0 (λ h is fits.
    let made : (slot.the_row).Denot = record { is_open = false; at = null_ptr; alloc = alloc; held = None } in
    let out : Val = slot_val false (ptr_val null_ptr) h in
    regoal ! (λ (us : List Val). prop (WpFn 𝓤 𝓛.H 𝓣.C 𝓣.Λ code.function (us ++ []) Post)) is refl $
    enter ! 𝓣.C 𝓣.Λ code.function (h ∷ []) Post $ alloc_all ! (λ l. pass_all ! refl (fits, tt) $
    sets ! (agg ! (and_then ! (false_lit !) (and_then ! (lit ! tt) (and_then ! (get ! refl) (no_more !))))) refl (and_tt (has_ty (α E.al) h) fits.0, (tt, (record { fits = lit< tt }, (fits.1, tt)))) $
    returns ! (look_at ! 0 refl) $ free_all ! refl $ nothing ! $ slot_in ! made h $ move ! (1 ∷ []) $ drop ! $
    use0 𝓛 (raw (fact 𝓤 (None ≡ None))) (fact_i 𝓤 (None ≡ None) (emp 𝓤) refl) $ nothing ! $ nothing ! $ fjoin ! $
    keep ! (3 ∷ 0 ∷ 2 ∷ 1 ∷ []) $ by ! (leaves 𝓛 f.ended stayed c z out made (tt, tt) (tt, tt)))))

-- `of` takes the parts of a box, and the slot owns what they owned.
use Rattle.std.proofs.Common.{◌≡◌, true, List, [], ◌∷◌, ◌++◌, refl, Some}
use Rattle.std.proofs.raw_atomic.Walks.{proved_at, leaves}
use Rattle.std.proofs.alloc.Calls.{Goes-blank}
use base.Logic.{SProp, emp}
use contract.Monad.{fact, fact_i}
use contract.Running.{tables}
use denote.RattleType.{owns}
use denote.RawPtr.{block_ptr}
use denote.Signature.{plain, types_at}
use denote.Steps.{nothing}
use denote.Triple.Entry.{alive}
use denote.Triple.Walked.{Stays, stay_dropped, walk_of}
use mir.Val.{Val, vptr}
use prog.Wp.{WpFn}
use types.ByLocal.{alloc_all, pass_all, free_all, look_at, get, get_in, sets}
use types.Kit.{prop, regoal, ‵, raw, ◌⊛◌, ◌$◌, ◌∵◌, !, qed, by, move, keep, use0, split, fsplit, fjoin}
use types.Part.{whole, sub, agg}
use types.Run.{enter, of_opd, true_lit, stop, fld, no_more, and_then, returns}
use Rattle.std.proofs.BoxSteps.Form.{D, word, box_typed}
use Rattle.std.proofs.BoxSteps.Steps.{box_out}
use Rattle.lgp_c_region.specs.contracts.slot.Slot as slot
use Rattle.lgp_c_region.specs.contracts.slot.Slot.of as f
use Rattle.lgp_c_region.proofs.slot.Slot.of.Statement.{statement}
use Rattle.lgp_c_region.proofs.slot.Slot.of.Code as code
use Rattle.lgp_c_region.proofs.SlotValue.{E, Parts, slot_val, slot_in}

abbrev stayed : Stays f.ended.signature.params f.ended.kept
stayed = (stay_dropped (plain (λ _. Parts)) f.ended.kept.0, tt)

pub of_spec : {M : Type 1} → statement M
of_spec 𝓤 𝓛 𝓜 𝓡 wired =
    let c = f.clauses 𝓛 𝓜.mem 𝓡.returns in
    let 𝓣 = tables 𝓤 𝓛.H 𝓜 𝓡 𝓡.env in
    proved_at 𝓛 f.ended stayed c 𝓜 𝓡 (Goes-blank 𝓛 0 (plain (λ _. Parts)) f.ended.kept.0 (λ κs x w. tt), tt)
    f.Key.name code.function (code.unfolded 𝓤 𝓛.H 𝓜 𝓡 wired) (λ z are.
    let Post : Val → SProp 𝓤 = (walk_of 𝓛 f.ended stayed c).post z in
    let x = z.0.3.0 in let v : D E = record { ptr = x.at; alloc = x.alloc; value = x.value } in
    qed 𝓛 ((raw (alive 𝓛 f.signature z.0.0 z.0.1) ⊛ ‵ (owns (types_at f.signature.params z.0.0) z.0.3 z.0.4)) ∷ raw (emp 𝓤) ∷ []) ∵
    split ! $ move ! (1 ∷ []) $ fsplit ! $ box_out E ! v z.0.4.0 (λ b o hv e ws fits.
    -- [what the box owns; the tokens]
    fjoin ! $ keep ! (0 ∷ 3 ∷ []) $
    let made : (slot.the_row).Denot = record { is_open = true; at = block_ptr b o; held = Some x.value } in
    let out : Val = slot_val true (vptr b o) in
    regoal ! (λ (us : List Val). prop (WpFn 𝓤 𝓛.H 𝓣.C 𝓣.Λ code.function (us ++ []) Post)) ws refl $
    enter ! 𝓣.C 𝓣.Λ code.function (word E hv b o ∷ []) Post $ alloc_all ! (λ l. pass_all ! refl (box_typed E hv b o fits, tt) $
    sets ! (of_opd ! (get_in ! (fld ! refl (stop !)) (sub ! 0 refl (whole !)))) refl (tt, tt) $
    sets ! (of_opd ! (get_in ! (fld ! refl (stop !)) (sub ! 1 refl (whole !)))) refl fits $
    sets ! (of_opd ! (get ! refl)) refl (tt, tt) $
    sets ! (agg ! (and_then ! (true_lit !) (and_then ! (get ! refl) (no_more !)))) refl (tt, (tt, (tt, tt))) $
    returns ! (look_at ! 0 refl) $ free_all ! refl $ slot_in ! made $
    use0 𝓛 (raw (fact 𝓤 (Some x.value ≡ Some x.value))) (fact_i 𝓤 (Some x.value ≡ Some x.value) (emp 𝓤) refl) $ nothing ! $ nothing ! $ fjoin ! $
    keep ! (3 ∷ 0 ∷ 2 ∷ 1 ∷ []) $ by ! (leaves 𝓛 f.ended stayed c z out made (tt, tt) (tt, tt)))))

-- `into_parts` looks whether the slot is open. If so, the parts own what it owned.
use Rattle.std.proofs.Common.{◌≡◌, Bool, true, false, None, Some, List, [], ◌∷◌, ◌++◌, refl, lit<, ap, ◌∙◌}
use Rattle.std.proofs.raw_atomic.Walks.{proved_at, leaves}
use base.Logic.{SProp, emp, id⊢}
use contract.Monad.{fact, fact_i}
use contract.Running.{tables}
use denote.RattleType.{RattleType, owns}
use denote.RawPtr.{Ptr, block_ptr, ptr_val}
use denote.Signature.{plain, types_at, type_at}
use denote.Steps.{nothing}
use denote.Struct.Rest.{own_shut}
use denote.Triple.Entry.{alive}
use denote.Triple.Walked.{Stays, stay_dropped, walk_of, Goes-dropped}
use mir.Val.{Val, vptr, vcons, vnil}
use prog.Wp.{WpFn}
use types.ByLocal.{alloc_all, pass_all, free_all, look_at, get, get_in, sets, sets_last, env}
use types.Kit.{‵, raw, ◌⊛◌, prop, at_ret, ◌$◌, ◌∵◌, !, qed, by, move, keep, use0, use1, split, regoal, fsplit, fjoin}
use types.Match.{live}
use types.Part.{whole, sub, agg}
use types.Run.{enter, of_opd, lit, stop, fld, no_more, and_then, first, branches, exec, returns}
use Rattle.std.proofs.alloc.Shapes.{after}
use Rattle.std.proofs.BoxSteps.Form.{D, word, handle, box_typed}
use Rattle.std.proofs.BoxSteps.Steps.{box_in}
use Rattle.std.proofs.option.Made.{Some-of, none_of}
use Rattle.lgp_parts.specs.contracts.unfreed.Unfreed as unfreed
use Rattle.lgp_c_region.specs.contracts.slot.Slot as slot
use Rattle.lgp_c_region.specs.contracts.slot.Slot.into_parts as f
use Rattle.lgp_c_region.proofs.slot.Slot.into_parts.Statement.{statement}
use Rattle.lgp_c_region.proofs.slot.Slot.into_parts.Code as code
use Rattle.lgp_c_region.proofs.SlotValue.{E, Parts, none, none_fits, slot_val, slot_out, slot_cases, slot_typed, ptr_typed}

abbrev stayed : Stays f.ended.signature.params f.ended.kept
stayed = (stay_dropped (plain (λ _. slot.the_row)) f.ended.kept.0, tt)

pub into_parts_spec : {M : Type 1} → statement M
into_parts_spec 𝓤 𝓛 𝓜 𝓡 wired =
    let c = f.clauses 𝓛 𝓜.mem 𝓡.returns in
    let 𝓣 = tables 𝓤 𝓛.H 𝓜 𝓡 𝓡.env in
    proved_at 𝓛 f.ended stayed c 𝓜 𝓡 (Goes-dropped 𝓛 0 (plain (λ _. slot.the_row)) f.ended.kept.0 (λ κs x w. refl), tt)
    f.Key.name code.function (code.unfolded 𝓤 𝓛.H 𝓜 𝓡 wired) (λ z are.
    let Post : Val → SProp 𝓤 = (walk_of 𝓛 f.ended stayed c).post z in
    let d = z.0.3.0 in let fn = code.function in let Out : RattleType = type_at f.signature.result z.0.0 in
    qed 𝓛 ((raw (alive 𝓛 f.signature z.0.0 z.0.1) ⊛ ‵ (owns (types_at f.signature.params z.0.0) z.0.3 z.0.4)) ∷ raw (emp 𝓤) ∷ []) ∵
    split ! $ move ! (1 ∷ []) $ fsplit ! $ slot_out ! d z.0.4.0 (λ is.
    slot_cases ! d.is_open d.at d.held
    -- an empty slot: [true; the tokens]
    (λ shut free.
    let here : Val = slot_val false (ptr_val d.at) in
    regoal ! (λ (us : List Val). prop (WpFn 𝓤 𝓛.H 𝓣.C 𝓣.Λ fn (us ++ []) Post)) (is ∙ ap (λ (b : Bool). slot_val b (ptr_val d.at) ∷ []) shut) refl $
    enter ! 𝓣.C 𝓣.Λ fn (here ∷ []) Post $ alloc_all ! (λ l. pass_all ! refl (slot_typed false d.at, tt) $
    sets ! (of_opd ! (get_in ! (fld ! refl (stop !)) (sub ! 0 refl (whole !)))) refl (tt, tt) $
    sets ! (of_opd ! (get_in ! (fld ! refl (stop !)) (sub ! 1 refl (whole !)))) refl (ptr_typed d.at) $
    sets ! (of_opd ! (get ! refl)) refl (tt, tt) $
    first ! $ branches ! (get ! refl) (λ wrong. absurd wrong) (λ _.
    sets_last ! (agg ! (and_then ! (lit ! tt) (no_more !))) refl (tt, (record { fits = lit< tt }, tt)) $
    exec ! 𝓣.C 𝓣.Λ (env fn.locals l) (after 4 fn.body) (at_ret (env fn.locals l) Post) $
    sets ! (of_opd ! (get ! refl)) refl (tt, (record { fits = lit< tt }, tt)) $
    returns ! (look_at ! 0 refl) $ free_all ! refl $
    use0 𝓛 (‵ (Out.own_val None (live 0 vnil ∷ []))) (none_of 𝓛 Parts) $
    use0 𝓛 (raw (fact 𝓤 (d.held ≡ None))) (fact_i 𝓤 (d.held ≡ None) (emp 𝓤) free) $ nothing ! $ nothing ! $ fjoin ! $
    keep ! (4 ∷ 0 ∷ 2 ∷ 1 ∷ []) $ by ! (leaves 𝓛 f.ended stayed c z (live 0 vnil) None (tt, tt) (tt, tt)))))
    -- an open one: [what the box owns; true; the tokens]
    (λ b o x full held at.
    let v : D E = record { ptr = block_ptr b o; alloc = record {}; value = x } in
    let made : Parts.Denot = record { at = block_ptr b o; alloc = record {}; value = x } in
    let w : Val = word E none b o in let u : Val = live 1 (vcons w vnil) in
    let here : Val = slot_val true (vptr b o) in
    let good = box_typed E none b o none_fits in
    regoal ! (λ (us : List Val). prop (WpFn 𝓤 𝓛.H 𝓣.C 𝓣.Λ fn (us ++ []) Post))
    (is ∙ ap (λ (b : Bool). slot_val b (ptr_val d.at) ∷ []) full ∙ ap (λ (p : Ptr). slot_val true (ptr_val p) ∷ []) at) refl $
    enter ! 𝓣.C 𝓣.Λ fn (here ∷ []) Post $ alloc_all ! (λ l. pass_all ! refl (slot_typed true (block_ptr b o), tt) $
    sets ! (of_opd ! (get_in ! (fld ! refl (stop !)) (sub ! 0 refl (whole !)))) refl (tt, tt) $
    sets ! (of_opd ! (get_in ! (fld ! refl (stop !)) (sub ! 1 refl (whole !)))) refl (tt, tt) $
    sets ! (of_opd ! (get ! refl)) refl (tt, tt) $
    first ! $ branches ! (get ! refl) (λ _.
    sets ! (of_opd ! (get ! refl)) refl (tt, tt) $
    sets ! (agg ! (no_more !)) refl (tt, tt) $
    sets ! (agg ! (and_then ! (get ! refl) (and_then ! (get ! refl) (no_more !)))) refl good $
    sets_last ! (agg ! (and_then ! (lit ! tt) (and_then ! (get ! refl) (no_more !)))) refl (tt, (record { fits = lit< tt }, (good.1, tt))) $
    exec ! 𝓣.C 𝓣.Λ (env fn.locals l) (after 4 fn.body) (at_ret (env fn.locals l) Post) $
    sets ! (of_opd ! (get ! refl)) refl (tt, (record { fits = lit< tt }, (good.1, tt))) $
    returns ! (look_at ! 0 refl) $ free_all ! refl $
    nothing ! $ use1 𝓛 (‵ (handle E (record {}) none)) (own_shut 𝓛 unfreed.the_type tt tt) $ move ! (1 ∷ []) $
    fsplit ! $ box_in E ! v b o x refl refl $ use1 𝓛 (‵ (Parts.own_val made (w ∷ []))) (id⊢ 𝓤 _) $
    use1 𝓛 (‵ (Out.own_val (Some made) (u ∷ []))) (Some-of 𝓛 Parts made w) $
    use0 𝓛 (raw (fact 𝓤 (d.held ≡ Some x))) (fact_i 𝓤 (d.held ≡ Some x) (emp 𝓤) held) $ nothing ! $ nothing ! $ fjoin ! $
    keep ! (4 ∷ 0 ∷ 2 ∷ 1 ∷ []) $ by ! (leaves 𝓛 f.ended stayed c z u (Some made) (tt, tt) (tt, tt))) (λ wrong. absurd wrong)))))

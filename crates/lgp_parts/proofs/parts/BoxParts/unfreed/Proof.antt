-- `unfreed` lets go of the right to give the block back, and of the allocator.
use Rattle.std.proofs.Common.{◌≡◌, List, [], ◌∷◌, ◌++◌, refl}
use Rattle.std.proofs.raw_atomic.Walks.{proved_at, leaves}
use Rattle.std.proofs.alloc.Calls.{Goes-blank}
use Rattle.std.proofs.BoxSteps.Form.{Bx, D, word, box_typed, handle}
use Rattle.std.proofs.BoxSteps.Steps.{box_out}
use Rattle.lgp_parts.specs.contracts.parts.BoxParts as parts
use Rattle.lgp_parts.specs.contracts.parts.BoxParts.unfreed as f
use Rattle.lgp_parts.specs.contracts.unfreed.Unfreed as unfreed
use Rattle.lgp_parts.specs.contracts.unfreed.UnfreedAllocator.TheImpl.{ghosts, dict}
use Rattle.lgp_parts.proofs.unfreed.Unfreed.TheLaws as unfreed_laws
use Rattle.lgp_parts.proofs.parts.BoxParts.unfreed.Statement.{statement}
use Rattle.lgp_parts.proofs.parts.BoxParts.unfreed.Code as code
use Rattle.lgp_parts.proofs.PartsValue.{Parts, parts_in}
use base.Logic.{SProp, emp, id⊢}
use contract.Monad.{fact, fact_i}
use contract.Running.{tables}
use denote.Exit.{no}
use denote.Param.{bounded, param, copied}
use denote.RattleType.{RattleType, owns}
use denote.RawPtr.{block_ptr}
use denote.Signature.{plain, types_at, type_at}
use denote.Steps.{nothing}
use denote.Struct.Rest.{own_shut}
use denote.Triple.Entry.{alive}
use denote.Triple.Walked.{Stays, stay_dropped, walk_of}
use mir.MapTy.{inst_fn}
use mir.Syntax.{Fn, Args, a_type, impl, tnil, dcons, dnil}
use mir.Val.{Val, vstruct, vnil}
use prog.Wp.{WpFn}
use types.ByLocal.{alloc_all, pass_all, free_all, look_at, get, get_in, sets}
use types.Kit.{‵, raw, ◌⊛◌, prop, ◌$◌, ◌∵◌, !, qed, by, move, keep, split, fsplit, fjoin, use0, use1, regoal}
use types.Part.{agg, sub, whole}
use types.Run.{stop, fld, of_opd, no_more, and_then, returns, enter}

pub unfreed_spec : {M : Type 1} → statement M
unfreed_spec 𝓤 𝓛 𝓜 𝓡 wired X A L LA copies g d gc dc allocator cloned =
    let E : Bx = record { row = X; laws = L; al = record { row = A; laws = LA; g = g; d = d; drops = impl [] tnil dnil } } in
    let F : Bx = record { row = X; laws = L; al = record { row = unfreed.the_row; laws = unfreed_laws.the_row_laws; g = ghosts; d = dict; drops = impl [] tnil dnil } } in
    let En = f.ended X A g d gc dc in let c = f.clauses X A g d gc dc 𝓛 𝓜.mem 𝓡.returns in
    let over : Args = bounded (a_type ∷ a_type ∷ []) (X, (A, tt)) (dcons d (dcons dc dnil)) in
    let fn : Fn = inst_fn over code.function in let 𝓣 = tables 𝓤 𝓛.H 𝓜 𝓡 𝓡.env in
    let Own : RattleType = parts.the_row (param 0 X) (copied 1 A) g in
    let stays : Stays En.signature.params En.kept = (stay_dropped (plain (λ _. Own)) no, tt) in
    proved_at 𝓛 En stays c 𝓜 𝓡 (Goes-blank 𝓛 2 (plain (λ _. Own)) no (λ κs x w. tt), tt)
    (f.Key.name over) fn (code.unfolded 𝓤 𝓛.H 𝓜 𝓡 wired (X, (A, tt)) d dc) (λ z are.
    let Post : Val → SProp 𝓤 = (walk_of 𝓛 En stays c).post z in
    let x = z.0.3.0 in let Out : RattleType = type_at En.signature.result z.0.0 in
    let v : D E = record { ptr = x.at; alloc = x.alloc; value = x.value } in
    qed 𝓛 ((raw (alive 𝓛 En.signature z.0.0 z.0.1) ⊛ ‵ (owns (types_at En.signature.params z.0.0) z.0.3 z.0.4)) ∷ raw ((c z.0.0 z.0.3).requires z.1) ∷ []) ∵
    split ! $ move ! (1 ∷ []) $ fsplit ! $ box_out E ! v z.0.4.0 (λ b o hv at is fits.
    -- only the value is left of what is owned: [the value; the tokens]
    keep ! (0 ∷ 4 ∷ []) $
    let none : Val = vstruct vnil in let u : Val = word F none b o in
    let made : (Parts F).Denot = record { at = block_ptr b o; alloc = record {}; value = x.value } in
    regoal ! (λ (us : List Val). prop (WpFn 𝓤 𝓛.H 𝓣.C 𝓣.Λ fn (us ++ []) Post)) is refl $
    enter ! 𝓣.C 𝓣.Λ fn (word E hv b o ∷ []) Post $ alloc_all ! (λ l. pass_all ! refl (box_typed E hv b o fits, tt) $
    sets ! (of_opd ! (get_in ! (fld ! refl (stop !)) (sub ! 0 refl (whole !)))) refl (tt, tt) $
    sets ! (of_opd ! (get_in ! (fld ! refl (stop !)) (sub ! 1 refl (whole !)))) refl fits $
    sets ! (agg ! (no_more !)) refl (tt, tt) $
    sets ! (agg ! (and_then ! (get ! refl) (and_then ! (get ! refl) (no_more !)))) refl (tt, (tt, (tt, tt))) $
    returns ! (look_at ! 0 refl) $ free_all ! refl $
    nothing ! $ use1 𝓛 (‵ (handle F (record {}) none)) (own_shut 𝓛 unfreed.the_type tt tt) $
    nothing ! $ move ! (2 ∷ 0 ∷ []) $ fjoin ! $ parts_in F ! {hv = none} b o (record {}) x.value $
    use1 𝓛 (‵ (Out.own_val made (u ∷ []))) (id⊢ 𝓤 _) $
    use0 𝓛 (raw (fact 𝓤 (x.value ≡ x.value))) (fact_i 𝓤 (x.value ≡ x.value) (emp 𝓤) refl) $ nothing ! $ nothing ! $ fjoin ! $
    keep ! (3 ∷ 0 ∷ 2 ∷ 1 ∷ []) $ by ! (leaves 𝓛 En stays c z u made (tt, tt) (tt, tt)))))

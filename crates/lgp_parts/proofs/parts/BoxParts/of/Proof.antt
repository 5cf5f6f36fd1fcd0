-- `of` takes the box apart. What it owned goes over to the parts.
use Rattle.std.proofs.Common.{◌≡◌, List, [], ◌∷◌, ◌++◌, refl}
use Rattle.std.proofs.raw_atomic.Walks.{proved_at, leaves}
use Rattle.std.proofs.alloc.Calls.{token, Goes-blank}
use Rattle.std.proofs.BoxSteps.Form.{Bx, R, B, word, box_typed}
use Rattle.std.proofs.BoxSteps.Steps.{box_out, box_in}
use Rattle.std.proofs.boxed.Box.into_raw_with_allocator.Met.{met}
use Rattle.std.specs.Box.Ownership.{box_owns}
use Rattle.std.specs.contracts.boxed.Box.into_raw_with_allocator as callee
use Rattle.lgp_parts.specs.contracts.parts.BoxParts.of as f
use Rattle.lgp_parts.proofs.parts.BoxParts.of.Statement.{statement}
use Rattle.lgp_parts.proofs.parts.BoxParts.of.Code as code
use Rattle.lgp_parts.proofs.PartsValue.{Pair, pair_out, parts_in}
use base.Fml.{ftrue, fsep, flft}
use base.Logic.{SProp, emp, id⊢}
use contract.Monad.{fact, fact_i}
use contract.Running.{tables}
use denote.Exit.{no}
use denote.Param.{bounded}
use denote.RattleType.{owns}
use denote.RawPtr.{Ptr, block_ptr}
use denote.Signature.{plain, types_at}
use denote.Steps.{heard, nothing}
use denote.Triple.Call.{calls_at}
use denote.Triple.Spec.{triple_of}
use denote.Triple.Table.{framed}
use denote.Triple.Walked.{Stays, stay_dropped, walk_of}
use mir.MapTy.{inst_fn}
use mir.Syntax.{Fn, Args, a_type, dcons, dnil}
use mir.Val.{Val}
use prog.Wp.{WpFn}
use types.ByLocal.{alloc_all, pass_all, free_all, look_at, get, get_in, sets, lands_as}
use types.Kit.{Item, ‵, raw, ◌⊛◌, some, later, prop, ◌$◌, ◌∵◌, !, qed, by, move, keep, drop, split, split3, join, fsplit, fjoin, pick, use0, use1, await, rewrite, regoal}
use types.Part.{agg, sub, whole}
use types.Run.{stop, fld, of_opd, no_more, and_then, returns, enter}

pub of_spec : {M : Type 1} → statement M
of_spec 𝓤 𝓛 𝓜 𝓡 wired T A L LA g d dd dx allocator ended glue =
    let E : Bx = record { row = T; laws = L; al = record { row = A; laws = LA; g = g; d = d; drops = dd } } in
    let En = f.ended T A g d dd dx in let c = f.clauses T A g d dd dx 𝓛 𝓜.mem 𝓡.returns in
    let over : Args = bounded (a_type ∷ a_type ∷ []) (T, (A, tt)) (dcons d (dcons dd (dcons dx dnil))) in
    let fn : Fn = inst_fn over code.function in let 𝓣 = tables 𝓤 𝓛.H 𝓜 𝓡 𝓡.env in
    let stays : Stays En.signature.params En.kept = (stay_dropped (plain (λ _. B E)) no, tt) in
    let apart = triple_of 𝓛 (callee.signature T A g d dd dx) (callee.spec T A g d dd dx 𝓛 𝓜.mem 𝓡.returns) in
    proved_at 𝓛 En stays c 𝓜 𝓡 (Goes-blank 𝓛 2 (plain (λ _. B E)) no (λ κs x w. tt), tt)
    (f.Key.name over) fn (code.unfolded 𝓤 𝓛.H 𝓜 𝓡 wired (T, (A, tt)) d dd dx) (λ z are.
    let Post : Val → SProp 𝓤 = (walk_of 𝓛 En stays c).post z in
    let κs = z.0.0 in let qs = z.0.1 in let box = z.0.3.0 in let alloc = box.alloc in
    let alive : Item 𝓤 = ‵ (flft κs.0 qs.0) ⊛ ‵ (flft κs.1.0 qs.1.0) ⊛ ‵ ftrue in
    qed 𝓛 ((alive ⊛ ‵ (owns (types_at En.signature.params κs) z.0.3 z.0.4)) ∷ raw ((c κs z.0.3).requires z.1) ∷ []) ∵
    split ! $ move ! (1 ∷ []) $ fsplit ! $ box_out E ! box z.0.4.0 (λ b o hv at is fits. box_in E ! box b o box.value at refl $
    let w : Val = word E hv b o in
    let asked : apart.Ghost = ((κs, qs, tt, (box, tt), (w ∷ [], tt)), tt) in
    fjoin ! $ move ! (1 ∷ 0 ∷ []) $ join ! $ join ! $ use1 𝓛 (raw (apart.pre asked)) (id⊢ 𝓤 _) $
    regoal ! (λ (us : List Val). prop (WpFn 𝓤 𝓛.H 𝓣.C 𝓣.Λ fn (us ++ []) Post)) is refl $
    enter ! 𝓣.C 𝓣.Λ fn (w ∷ []) Post $ alloc_all ! (λ l. pass_all ! refl (box_typed E hv b o fits, tt) $
    sets ! (of_opd ! (get ! refl)) refl (box_typed E hv b o fits) $
    calls_at ! (framed 𝓤 𝓛.H 𝓜 𝓣) apart (met 𝓤 𝓛 𝓜 𝓡 (code.calls-std_alloc::boxed::Box::into_raw_with_allocator 𝓡.env wired) T A L LA g d dd dx allocator ended glue) asked
    (and_then ! (get ! refl) (no_more !)) (λ u.
    use1 𝓛 (later (some (λ (r : Ptr × A.Denot). (alive ⊛ ‵ ((Pair E).own_val r (u ∷ []))) ⊛ some (λ (_ : (Unit {0} × (Unit {0} × Unit {0})) × Unit {0}). ‵ (fsep (fsep ftrue (fsep ftrue ftrue)) ftrue)
    ⊛ (raw (fact 𝓤 (r.1 ≡ alloc)) ⊛ ‵ (box_owns (token E.al alloc) (R E) r.0 box.value)))))) (id⊢ 𝓤 _) $
    await ! tt $ pick ! (λ r. split ! $ move ! (1 ∷ []) $ pick ! (λ _. split3 ! $ drop ! $ heard ! (r.1 ≡ alloc) (λ same.
    -- [what the box owned; the tokens and the pair]
    move ! (1 ∷ []) $ split ! $ move ! (1 ∷ []) $ rewrite ! 0 (λ (a : A.Denot). ‵ ((Pair E).own_val (r.0, a) (u ∷ []))) same refl $ move ! (2 ∷ 0 ∷ []) $
    pair_out E ! r.0 alloc box.value u (λ b' o' hv' at' is' fits'.
    let good = box_typed E hv' b' o' fits' in
    lands_as ! is' refl good $
    sets ! (of_opd ! (get_in ! (fld ! refl (stop !)) (sub ! 0 refl (whole !)))) refl (tt, tt) $
    sets ! (of_opd ! (get_in ! (fld ! refl (stop !)) (sub ! 1 refl (whole !)))) refl fits' $
    sets ! (of_opd ! (get ! refl)) refl fits' $
    sets ! (agg ! (and_then ! (get ! refl) (and_then ! (get ! refl) (no_more !)))) refl good $
    returns ! (look_at ! 0 refl) $ free_all ! refl $ parts_in E ! b' o' alloc box.value $
    use0 𝓛 (raw (fact 𝓤 (box.value ≡ box.value))) (fact_i 𝓤 (box.value ≡ box.value) (emp 𝓤) refl) $ nothing ! $ nothing ! $ fjoin ! $
    keep ! (3 ∷ 0 ∷ 2 ∷ 1 ∷ []) $ by ! (leaves 𝓛 En stays c z (word E hv' b' o') (record { at = block_ptr b' o'; alloc = alloc; value = box.value }) ((tt, (tt, tt)), tt) (tt, tt))))))))))

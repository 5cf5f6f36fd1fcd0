-- `taken_for_good` asks the allocator for units of 16 bytes, and lets go of the right to give them back.
use Rattle.std.proofs.Common.{◌≡◌, ◌*◌, ◌/◌, ◌%◌, ◌^◌, ◌<◌, List, [], ◌∷◌, ◌++◌, refl, ◌∙◌, arith, lit<, w64, Some, None}
use Rattle.std.proofs.alloc.Calls.{Al, seen, Takes, at_takes, Answered, Takes-goes, Takes-gives, answers}
use Rattle.std.proofs.alloc.Shapes.{after, head, arm_body}
use Rattle.std.proofs.raw_atomic.Walks.{proved_at, leaves}
use base.Logic.{SProp, emp, id⊢}
use base.Fml.{Lft, Share, ftrue, flft}
use contract.BorrowLft.{◌⊑◌, ⊑_trans}
use contract.Monad.{fact, fact_i}
use contract.Running.{tables}
use denote.Builtin.{RefOf, usize}
use denote.Param.{param, bounded}
use denote.RattleType.{RattleType, owns}
use denote.RawPtr.{Ptr, block_ptr}
use denote.Signature.{Slot, plain, types_at, type_at}
use denote.Steps.{nothing, heard}
use denote.Triple.Call.{calls_at}
use denote.Triple.Entry.{alive}
use denote.Triple.Table.{framed}
use denote.Triple.Walked.{Stays, stay_dropped, walk_of, Goes-dropped}
use mir.MapTy.{inst_fn}
use mir.Syntax.{Ty, Fn, Args, a_type, dcons, dnil}
use mir.Val.{Val, vint, vptr, vcons, vnil}
use prog.Capped.{capped_is}
use prog.Wp.{WpFn}
use types.ByLocal.{alloc_all, pass_all, free_all, look_at, get, get_in, get_tag, sets, sets_last, lands_as, env}
use types.Kit.{‵, raw, ◌⊛◌, later, prop, at_ret, ◌$◌, ◌∵◌, !, qed, by, move, drop, use0, use1, use2, split, split3, join, regoal, fsplit, fjoin, await}
use types.Match.{live, vrt, in_variant}
use types.Part.{whole, agg}
use types.Run.{enter, lit, of_opd, stop, fld, no_more, and_then, first, switches_on, exec, returns}
use Rattle.lgp_region.specs.Room.{units_of}
use Rattle.lgp_region.specs.contracts.block.Block as block
use Rattle.lgp_region.specs.contracts.block.Block.taken_for_good as f
use Rattle.lgp_region.proofs.block.Block.taken_for_good.Statement.{statement}
use Rattle.lgp_region.proofs.block.Block.taken_for_good.Code as code
use Rattle.lgp_region.proofs.BlockValue.{block_val, block_at, block_made}
use Rattle.std.proofs.option.Made.{Some-of, none_of}
use Rattle.lgp_region.proofs.StepLemmas.{then_runs}

pub taken_for_good_spec : {M : Type 1} → statement M
taken_for_good_spec 𝓤 𝓛 𝓜 𝓡 wired A laws g d drops met _ =
    let En = f.ended A g d drops in
    let c = f.clauses A g d drops 𝓛 𝓜.mem 𝓡.returns in
    let B : Al = record { row = A; laws = laws; g = g; d = d; drops = drops } in
    let over : Args = bounded (a_type ∷ []) (A, tt) (dcons d (dcons drops dnil)) in
    let fn : Fn = inst_fn over code.function in
    let lent : Slot 2 = RefOf (0 ∷ []) tt (plain (λ _. param 0 A)) (λ _. tt) in
    let number : Slot 2 = plain (λ _. usize) in
    let stays : Stays En.signature.params En.kept = (stay_dropped lent En.kept.0, (stay_dropped number En.kept.1.0, tt)) in
    let 𝓣 = tables 𝓤 𝓛.H 𝓜 𝓡 𝓡.env in
    proved_at 𝓛 En stays c 𝓜 𝓡 (Goes-dropped 𝓛 2 lent En.kept.0 (λ κs x w. refl), (Goes-dropped 𝓛 2 number En.kept.1.0 (λ κs x w. refl), tt))
    (f.Key.name over) fn (code.unfolded 𝓤 𝓛.H 𝓜 𝓡 wired (A, tt) d drops) (λ z are.
    let Post : Val → SProp 𝓤 = (walk_of 𝓛 En stays c).post z in
    let a = z.0.3 in let vss = z.0.4 in let κ : Lft = z.0.0.0 in let q : Share = z.0.1.0 in
    let at = a.0.ref_ptr in let n = a.1.0 in let type : Ty = units_of n in
    let asks = at_takes B 𝓛 𝓜.mem 𝓡.returns κ q at a.0.now n 16 type in
    let Out : RattleType = type_at En.signature.result z.0.0 in
    qed 𝓛 ((raw (alive 𝓛 En.signature z.0.0 z.0.1) ⊛ ‵ (owns (types_at En.signature.params z.0.0) a vss))
    ∷ (raw (fact 𝓤 (z.0.0.1.0 ⊑ A.lives)) ⊛ raw (fact 𝓤 (n % 16 ≡ 0)) ⊛ raw (fact 𝓤 (n < 2 ^ 63))) ∷ []) ∵
    move ! (1 ∷ []) $ split3 ! $ heard ! (z.0.0.1.0 ⊑ A.lives) (λ outlived. heard ! (n % 16 ≡ 0) (λ units. heard ! (n < 2 ^ 63) (λ below.
    split ! $ move ! (1 ∷ []) $ fsplit ! $ fsplit ! $ drop ! $ move ! (1 ∷ []) $ drop ! $ use1 𝓛 (‵ (seen B κ at a.0.now)) (id⊢ 𝓤 _) $ move ! (1 ∷ []) $
    use1 𝓛 (‵ (flft κ q) ⊛ ‵ (flft z.0.0.1.0 z.0.1.1.0) ⊛ ‵ ftrue) (id⊢ 𝓤 _) $ split ! $ move ! (2 ∷ 0 ∷ []) $
    regoal ! (λ (us : List Val). prop (WpFn 𝓤 𝓛.H 𝓣.C 𝓣.Λ fn us Post)) (λ i. are.0.0 i ++ (are.1.0.0 i ++ [])) refl $
    enter ! 𝓣.C 𝓣.Λ fn (vptr at.0 at.1 ∷ vint w64 n ∷ []) Post $
    alloc_all ! (λ l. pass_all ! refl ((tt, tt), ((tt, record { fits = are.1.0.1 }), tt)) $
    -- the allocator is asked for a given number of units
    use2 𝓛 (raw ((Takes B 𝓛 𝓜.mem 𝓡.returns).pre asks)) (Takes-goes B 𝓛 𝓜.mem 𝓡.returns κ q at a.0.now (⊑_trans κ z.0.0.1.0 A.lives z.0.2.0 outlived)
    n 16 type (capped_is (n / 16 * 16) (omega arith) ∙ omega arith) refl are.1.0.1 (lit< tt)) $
    calls_at ! (framed 𝓤 𝓛.H 𝓜 𝓣) (Takes B 𝓛 𝓜.mem 𝓡.returns) (met.allocate drops) asks (and_then ! (get ! refl) (and_then ! (get ! refl) (and_then ! (lit ! tt) (no_more !)))) (λ v.
    use1 𝓛 (later (raw (Answered B 𝓛 𝓜.mem 𝓡.returns a.0.now type v) ⊛ ‵ (flft κ q))) (Takes-gives B 𝓛 𝓜.mem 𝓡.returns κ q at a.0.now n 16 type v) $ await ! tt $ split ! $
    answers B ! 𝓜.mem 𝓡.returns a.0.now type v
    (λ b o is. let p : Ptr = block_ptr b o in let x : (block.the_row).Denot = record { at = p; size = n } in let u : Val = live 1 (vcons (block_val p) vnil) in
    move ! (2 ∷ 3 ∷ []) $ join ! $ move ! (1 ∷ 2 ∷ []) $ move ! (1 ∷ []) $ drop ! $ lands_as ! is refl (tt, (record { fits = lit< tt }, (tt, tt))) $
    first ! $ switches_on ! (get_tag ! (vrt ! refl (fld ! refl (stop !))) (whole !)) $
    exec ! 𝓣.C 𝓣.Λ (env fn.locals l) (arm_body 0 (head (after 1 fn.body))) (then_runs 𝓛 𝓣.C 𝓣.Λ (env fn.locals l) (after 2 fn.body) (at_ret (env fn.locals l) Post)) $
    sets ! (of_opd ! (get_in ! (vrt ! refl (fld ! refl (stop !))) (in_variant ! 0 0 refl refl (whole !)))) refl (tt, tt) $
    sets ! (agg ! (and_then ! (get ! refl) (no_more !))) refl (tt, (tt, tt)) $
    sets_last ! (agg ! (and_then ! (lit ! tt) (and_then ! (get ! refl) (no_more !)))) refl (tt, (record { fits = lit< tt }, ((tt, tt), tt))) $
    exec ! 𝓣.C 𝓣.Λ (env fn.locals l) (after 2 fn.body) (at_ret (env fn.locals l) Post) $
    sets ! (of_opd ! (get ! refl)) refl (tt, (record { fits = lit< tt }, ((tt, tt), tt))) $
    returns ! (look_at ! 0 refl) $ free_all ! refl $
    use1 𝓛 (‵ (block_at p n)) (block_made 𝓛 p n) $
    use1 𝓛 (‵ (Out.own_val (Some x) (u ∷ []))) (Some-of 𝓛 block.the_row x (block_val p)) $
    use0 𝓛 (raw (fact 𝓤 (n ≡ n))) (fact_i 𝓤 (n ≡ n) (emp 𝓤) refl) $ nothing ! $ nothing ! $ fjoin ! $ nothing ! $ fjoin ! $ move ! (3 ∷ 0 ∷ 2 ∷ 1 ∷ []) $
    by ! (leaves 𝓛 En stays c z u (Some x) (tt, (tt, tt)) (tt, (tt, tt))))
    (λ is. join ! $ lands_as ! is refl (tt, (record { fits = lit< tt }, (tt, tt))) $
    first ! $ switches_on ! (get_tag ! (vrt ! refl (fld ! refl (stop !))) (whole !)) $
    exec ! 𝓣.C 𝓣.Λ (env fn.locals l) (arm_body 1 (head (after 1 fn.body))) (then_runs 𝓛 𝓣.C 𝓣.Λ (env fn.locals l) (after 2 fn.body) (at_ret (env fn.locals l) Post)) $
    sets_last ! (agg ! (and_then ! (lit ! tt) (no_more !))) refl (tt, (record { fits = lit< tt }, tt)) $
    exec ! 𝓣.C 𝓣.Λ (env fn.locals l) (after 2 fn.body) (at_ret (env fn.locals l) Post) $
    sets ! (of_opd ! (get ! refl)) refl (tt, (record { fits = lit< tt }, tt)) $
    returns ! (look_at ! 0 refl) $ free_all ! refl $
    use0 𝓛 (‵ (Out.own_val None (live 0 vnil ∷ []))) (none_of 𝓛 block.the_row) $
    use0 𝓛 (raw (fact 𝓤 (Unit {0}))) (fact_i 𝓤 (Unit {0}) (emp 𝓤) tt) $ nothing ! $ nothing ! $ fjoin ! $ nothing ! $ fjoin ! $ move ! (3 ∷ 0 ∷ 2 ∷ 1 ∷ []) $
    by ! (leaves 𝓛 En stays c z _ None (tt, (tt, tt)) (tt, (tt, tt))))))))))

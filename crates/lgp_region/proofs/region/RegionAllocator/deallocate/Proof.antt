-- `deallocate` turns the room of the value into the block again, and keeps that.
use Rattle.std.proofs.Common.{◌≡◌, ◌^◌, List, [], ◌∷◌, ◌++◌, refl, sym, ap, ◌∙◌, arith, w64}
use Rattle.std.proofs.raw_atomic.Walks.{proved_at, leaves}
use base.Logic.{SProp, emp, id⊢, apply∗, never}
use base.Fml.{ftrue}
use contract.Monad.{fact, fact_i}
use contract.Running.{tables}
use denote.Builtin.{RefOf, usize, unit}
use denote.RattleType.{owns}
use denote.RawPtr.{Ptr, RawPtr, block_ptr, ptr_val, room_for, in_a_block}
use denote.Signature.{Slot, plain, types_at}
use denote.Steps.{nothing, only, heard}
use denote.Triple.Call.{calls_at}
use denote.Triple.Clauses.{Lasts, lasts}
use denote.Triple.Entry.{alive}
use denote.Triple.Spec.{triple_of}
use denote.Triple.Table.{framed}
use denote.Triple.Walked.{Stays, stay_dropped, walk_of, Goes-dropped}
use mir.Syntax.{Ty}
use mir.Val.{Val, vint, vptr, vunit}
use prog.Capped.{capped_is}
use prog.Memory.{size, align, capped}
use prog.Wp.{WpFn}
use types.ByLocal.{alloc_all, pass_all, free_all, look_at, get, sets, lands_as}
use types.Kit.{‵, raw, ◌⊛◌, some, later, prop, ◌$◌, ◌∵◌, !, qed, by, move, keep, drop, use0, use1, use2, split, split3, join, pick, regoal, fsplit, fjoin, fpick, feq_l, feq_i, flt_i, await}
use types.Logic.{sem}
use types.Part.{agg}
use types.Run.{enter, unit_lit, of_opd, no_more, and_then, returns}
use Rattle.lgp_region.specs.Room.{bytes_at, block_size, block_token}
use Rattle.lgp_region.specs.contracts.block.Block as block
use Rattle.lgp_region.specs.contracts.region.Region as region
use Rattle.lgp_region.specs.contracts.region.Region.keep as callee
use Rattle.lgp_region.proofs.region.Region.keep.Met.{met as keeps}
use Rattle.lgp_region.specs.contracts.region.RegionAllocator.deallocate as f
use Rattle.lgp_region.proofs.region.RegionAllocator.deallocate.Statement.{statement}
use Rattle.lgp_region.proofs.region.RegionAllocator.deallocate.Code as code
use Rattle.lgp_region.proofs.BlockValue.{block_val, block_at, block_made}

abbrev self : Slot 1
self = RefOf (0 ∷ []) tt (plain (λ _. region.the_row)) (λ _. tt)

abbrev number : Slot 1
number = plain (λ _. usize)

abbrev pointer : Slot 1
pointer = plain (λ _. RawPtr)

abbrev stayed : Stays f.ended.signature.params f.ended.kept
stayed = (stay_dropped self f.ended.kept.0, (stay_dropped pointer f.ended.kept.1.0, (stay_dropped number f.ended.kept.1.1.0, (stay_dropped number f.ended.kept.1.1.1.0, tt))))

pub deallocate_spec : {M : Type 1} → statement M
deallocate_spec 𝓤 𝓛 𝓜 𝓡 wired =
    let c = f.clauses 𝓛 𝓜.mem 𝓡.returns in
    let 𝓣 = tables 𝓤 𝓛.H 𝓜 𝓡 𝓡.env in
    proved_at 𝓛 f.ended stayed c 𝓜 𝓡 (
      Goes-dropped 𝓛 1 self f.ended.kept.0 (λ κs x w. refl),
      (
        Goes-dropped 𝓛 1 pointer f.ended.kept.1.0 (λ κs x w. refl),
        (Goes-dropped 𝓛 1 number f.ended.kept.1.1.0 (λ κs x w. refl), (Goes-dropped 𝓛 1 number f.ended.kept.1.1.1.0 (λ κs x w. refl), tt)),
      ),
    )
    _ _ (code.unfolded 𝓤 𝓛.H 𝓜 𝓡 wired) (λ z are.
    let Post : Val → SProp 𝓤 = (walk_of 𝓛 f.ended stayed c).post z in
    let a = z.0.3 in let vss = z.0.4 in let type : Ty = z.1 in let from = a.1.0 in let n = a.1.1.0 in let alignment = a.1.1.1.0 in
    let all = block_size (size type) in let me : Val = vptr a.0.ref_ptr.0 a.0.ref_ptr.1 in
    let Keep = triple_of 𝓛 callee.signature (callee.spec 𝓛 𝓜.mem 𝓡.returns) in
    let IsAsked : Type 0 = (capped (size type) ≡ n) × (capped (align type) ≡ alignment) in
    qed 𝓛 ((raw (alive 𝓛 f.signature z.0.0 z.0.1) ⊛ ‵ (owns (types_at f.signature.params z.0.0) a vss))
    ∷ (raw (fact 𝓤 IsAsked) ⊛ ‵ (room_for type from) ⊛ ‵ (block_token type from)) ∷ []) ∵
    -- the room and the token are the block's bytes
    move ! (1 ∷ []) $ split3 ! $ heard ! IsAsked (λ asked. move ! (1 ∷ []) $ fpick ! (λ below. move ! (1 ∷ 0 ∷ []) $
    use2 𝓛 (‵ (bytes_at from _)) (apply∗ 𝓤 (sem 𝓛 (room_for type from)) (sem 𝓛 (bytes_at from _))) $
    in_a_block ! from (λ p. bytes_at p all) (id⊢ 𝓤 (never 𝓤)) (λ b o is_at.
    let p : Ptr = block_ptr b o in let same : size type ≡ n = sym (capped_is (size type) (omega arith)) ∙ asked.0 in
    move ! (1 ∷ []) $ split ! $ move ! (1 ∷ []) $ fsplit ! $ fsplit ! $ keep ! (4 ∷ 1 ∷ 3 ∷ []) $
    regoal ! (λ (us : List Val). prop (WpFn 𝓤 𝓛.H 𝓣.C 𝓣.Λ code.function us Post))
    (λ i. are.0.0 i ++ ((are.1.0 ∙ ap (λ (u : Ptr). ptr_val u ∷ []) is_at) i ++ (are.1.1.0.0 i ++ (are.1.1.1.0.0 i ++ [])))) refl $
    enter ! 𝓣.C 𝓣.Λ code.function (me ∷ vptr b o ∷ vint w64 n ∷ vint w64 alignment ∷ []) Post $
    alloc_all ! (λ l. pass_all ! refl ((tt, tt), ((tt, tt), ((tt, record { fits = are.1.1.0.1 }), ((tt, record { fits = are.1.1.1.0.1 }), tt)))) $
    sets ! (agg ! (and_then ! (get ! refl) (no_more !))) refl (tt, (tt, tt)) $
    -- [the bytes; the region; the tokens], which are handed to `keep` with the size
    let x : (block.the_row).Denot = record { at = p; size = all } in
    let y : Keep.Ghost = ((z.0.0, z.0.1, z.0.2, (a.0, (x, (n, tt))), (me ∷ [], (block_val p ∷ [], (vint w64 n ∷ [], tt)))), tt) in
    nothing ! $ flt_i ! n (2 ^ 64) are.1.1.0.1 $ feq_i ! (List Val) (vint w64 n ∷ []) (vint w64 n ∷ []) refl $ fjoin ! $ fjoin ! $ move ! (1 ∷ []) $
    use1 𝓛 (‵ (block_at p all)) (block_made 𝓛 p _) $ fjoin ! $ move ! (1 ∷ []) $
    feq_i ! (List Val) (me ∷ []) (me ∷ []) refl $ fjoin ! $ fjoin ! $ move ! (1 ∷ 0 ∷ []) $ join ! $
    use0 𝓛 (raw (fact 𝓤 (all ≡ block_size n))) (fact_i 𝓤 (all ≡ block_size n) (emp 𝓤) (ap block_size same)) $ move ! (1 ∷ 0 ∷ []) $ join ! $
    use1 𝓛 (raw (Keep.pre y)) (id⊢ 𝓤 _) $
    calls_at ! (framed 𝓤 𝓛.H 𝓜 𝓣) Keep (keeps 𝓤 𝓛 𝓜 𝓡 (code.calls-lgp_region::region::Region::keep 𝓡.env wired)) y
    (and_then ! (get ! refl) (and_then ! (get ! refl) (and_then ! (get ! refl) (no_more !)))) (λ v.
    use1 𝓛 (later (some (λ (t : Unit {0}). (raw (alive 𝓛 f.signature z.0.0 z.0.1) ⊛ ‵ (unit.own_val t (v ∷ []))) ⊛
    some (λ (ls : Lasts callee.ended z.0.0 y.0.3). ‵ (lasts callee.ended z.0.0 y.0.3 ls) ⊛ ‵ ftrue)))) (id⊢ 𝓤 (Keep.post y v)) $
    await ! tt $ pick ! (λ t. split ! $ move ! (1 ∷ []) $ drop ! $ split ! $ move ! (1 ∷ []) $ feq_l ! (λ is_unit. lands_as ! (ap only is_unit) refl (tt, tt) $
    sets ! (of_opd ! (unit_lit !)) refl (tt, tt) $ returns ! (look_at ! 0 refl) $ free_all ! refl $
    feq_i ! (List Val) (vunit ∷ []) (vunit ∷ []) refl $ nothing ! $ nothing ! $ nothing ! $ fjoin ! $ nothing ! $ fjoin ! $ nothing ! $ fjoin ! $ nothing ! $ fjoin ! $
    move ! (3 ∷ 0 ∷ 2 ∷ 1 ∷ []) $
    by ! (leaves 𝓛 f.ended stayed c z _ tt _ _)))))))))

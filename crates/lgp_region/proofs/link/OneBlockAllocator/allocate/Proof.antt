-- `allocate` hands out the block that `take` answers: it is room for the value, and its way back is the token.
use Rattle.std.proofs.Common.{◌≡◌, true, false, List, [], ◌∷◌, ◌++◌, refl, subst, lit<, w64, Ok, Err}
use Rattle.std.proofs.alloc.Calls.{Answer, answer_val, Answer-Ok, Answer-err}
use Rattle.std.proofs.alloc.Shapes.{after, head, arm_body}
use Rattle.std.proofs.raw_atomic.Walks.{proved_at, leaves}
use base.Logic.{SProp, ent, id⊢}
use contract.Monad.{fact}
use contract.Running.{tables}
use denote.Builtin.{RefOf, usize}
use denote.RattleType.{owns}
use denote.RawPtr.{Ptr, block_ptr}
use denote.Signature.{Slot, plain, types_at}
use denote.Steps.{nothing, heard}
use denote.Triple.Call.{calls_from}
use denote.Triple.Clauses.{Lasts, lasts}
use denote.Triple.Entry.{alive}
use denote.Triple.Spec.{triple_of}
use denote.Triple.Table.{framed}
use denote.Triple.Walked.{Stays, stay_dropped, walk_of, Goes-dropped}
use mir.Syntax.{Ty}
use mir.Val.{Val, vint, vptr}
use prog.Memory.{size, align, capped}
use prog.Wp.{WpFn}
use types.ByLocal.{alloc_all, pass_all, free_all, look_at, get, get_in, get_tag, sets, sets_last, lands_as, env}
use types.Kit.{‵, raw, ◌⊛◌, some, later, prop, at_ret, ◌$◌, ◌∵◌, !, qed, by, move, drop, use0, use1, split, join, pick, regoal, fjoin, await}
use types.Match.{vrt, in_variant}
use types.Part.{whole, sub, agg}
use types.Run.{enter, lit, of_opd, stop, fld, no_more, and_then, first, switches_on, exec, returns}
use Rattle.lgp_region.specs.contracts.link.OneBlock as one_block
use Rattle.lgp_region.specs.contracts.link.OneBlock.take as callee
use Rattle.lgp_region.specs.contracts.link.OneBlock.take.Key as take_key
use Rattle.lgp_region.proofs.link.OneBlock.take.Met.{met as takes}
use Rattle.lgp_region.specs.contracts.link.OneBlockAllocator.allocate as f
use Rattle.lgp_region.proofs.link.OneBlockAllocator.allocate.Statement.{statement}
use Rattle.lgp_region.proofs.link.OneBlockAllocator.allocate.Code as code
use Rattle.lgp_region.proofs.StepLemmas.{then_runs}
use Rattle.lgp_region.proofs.TakenBlock.{Answered, IsFor, taken}

abbrev self : Slot 1
self = RefOf (0 ∷ []) tt (plain (λ _. one_block.the_row)) (λ _. tt)

abbrev number : Slot 1
number = plain (λ _. usize)

abbrev stayed : Stays f.ended.signature.params f.ended.kept
stayed = (stay_dropped self f.ended.kept.0, (stay_dropped number f.ended.kept.1.0, (stay_dropped number f.ended.kept.1.1.0, tt)))

pub allocate_spec : {M : Type 1} → statement M
allocate_spec 𝓤 𝓛 𝓜 𝓡 wired =
    let c = f.clauses 𝓛 𝓜.mem 𝓡.returns in
    let 𝓣 = tables 𝓤 𝓛.H 𝓜 𝓡 𝓡.env in
    proved_at 𝓛 f.ended stayed c 𝓜 𝓡
    (Goes-dropped 𝓛 1 self f.ended.kept.0 (λ κs x w. refl), (Goes-dropped 𝓛 1 number f.ended.kept.1.0 (λ κs x w. refl), (Goes-dropped 𝓛 1 number f.ended.kept.1.1.0 (λ κs x w. refl), tt)))
    _ _ (code.unfolded 𝓤 𝓛.H 𝓜 𝓡 wired) (λ z are.
    let Post : Val → SProp 𝓤 = (walk_of 𝓛 f.ended stayed c).post z in
    let a = z.0.3 in let vss = z.0.4 in let type : Ty = z.1 in let n = a.1.0 in let alignment = a.1.1.0 in
    let Take = triple_of 𝓛 callee.signature (callee.spec 𝓛 𝓜.mem 𝓡.returns) in
    let passed : List Val = vptr a.0.ref_ptr.0 a.0.ref_ptr.1 ∷ vint w64 n ∷ vint w64 alignment ∷ [] in
    let y : Take.Ghost = ((z.0.0, z.0.1, z.0.2, a, vss), tt) in
    let are_passed : Take.args y ≡ passed = λ i. are.0.0 i ++ (are.1.0.0 i ++ (are.1.1.0.0 i ++ [])) in
    let IsAsked : Type 0 = (capped (size type) ≡ n) × (capped (align type) ≡ alignment) in
    qed 𝓛 ((raw (alive 𝓛 f.signature z.0.0 z.0.1) ⊛ ‵ (owns (types_at f.signature.params z.0.0) a vss)) ∷ raw (fact 𝓤 IsAsked) ∷ []) ∵
    move ! (1 ∷ []) $ heard ! IsAsked (λ asked.
    -- all that the parameters own is handed on to `take`
    split ! $ move ! (1 ∷ 0 ∷ []) $ move ! (1 ∷ []) $ join ! $ nothing ! $ move ! (1 ∷ 0 ∷ []) $ join ! $ use1 𝓛 (raw (Take.pre y)) (id⊢ 𝓤 _) $
    regoal ! (λ (us : List Val). prop (WpFn 𝓤 𝓛.H 𝓣.C 𝓣.Λ code.function us Post)) are_passed refl $
    enter ! 𝓣.C 𝓣.Λ code.function passed Post $
    alloc_all ! (λ l. pass_all ! refl ((tt, tt), ((tt, record { fits = are.1.0.1 }), ((tt, record { fits = are.1.1.0.1 }), tt))) $
    calls_from ! (framed 𝓤 𝓛.H 𝓜 𝓣) (raw (Take.pre y)) passed (Take.post y)
    (subst (λ (us : List Val). ent 𝓤 (Take.pre y) (𝓣.C take_key.name us (Take.post y))) are_passed (takes 𝓤 𝓛 𝓜 𝓡 (code.calls-lgp_region::link::OneBlock::take 𝓡.env wired) y))
    (and_then ! (get ! refl) (and_then ! (get ! refl) (and_then ! (get ! refl) (no_more !)))) (λ v.
    use1 𝓛 (later (some (λ (answer : Answered.Denot). (raw (alive 𝓛 f.signature z.0.0 z.0.1) ⊛ ‵ (Answered.own_val answer (v ∷ []))) ⊛
    some (λ (ls : Lasts callee.ended z.0.0 a). ‵ (lasts callee.ended z.0.0 a ls) ⊛ raw (fact 𝓤 (IsFor n alignment answer)))))) (id⊢ 𝓤 (Take.post y v)) $
    await ! tt $ pick ! (λ answer. split ! $ move ! (1 ∷ []) $ pick ! (λ _. split ! $ drop ! $ heard ! (IsFor n alignment answer) (λ known. split ! $ move ! (1 ∷ []) $
    taken ! type n alignment answer v asked.0 known
    (λ b o is. let p : Ptr = block_ptr b o in
    lands_as ! is refl (tt, (record { fits = lit< tt }, ((tt, tt), tt))) $
    first ! $ switches_on ! (get_tag ! (vrt ! refl (fld ! refl (stop !))) (whole !)) $
    exec ! 𝓣.C 𝓣.Λ (env code.function.locals l) (arm_body 0 (head (after 1 code.function.body))) (then_runs 𝓛 𝓣.C 𝓣.Λ (env code.function.locals l) (after 2 code.function.body) (at_ret (env code.function.locals l) Post)) $
    sets ! (of_opd ! (get_in ! (vrt ! refl (fld ! refl (fld ! refl (stop !)))) (sub ! 0 refl (in_variant ! 1 0 refl refl (whole !))))) refl (tt, tt) $
    sets_last ! (agg ! (and_then ! (lit ! tt) (and_then ! (get ! refl) (no_more !)))) refl (tt, (record { fits = lit< tt }, (tt, tt))) $
    exec ! 𝓣.C 𝓣.Λ (env code.function.locals l) (after 2 code.function.body) (at_ret (env code.function.locals l) Post) $
    sets ! (of_opd ! (get ! refl)) refl (tt, (record { fits = lit< tt }, (tt, tt))) $
    returns ! (look_at ! 0 refl) $ free_all ! refl $
    use0 𝓛 (‵ (Answer.own_val (Ok p) (answer_val true b o ∷ []))) (Answer-Ok 𝓛 b o) $
    nothing ! $ nothing ! $ fjoin ! $ nothing ! $ fjoin ! $ nothing ! $ fjoin ! $ move ! (3 ∷ 0 ∷ 1 ∷ 2 ∷ []) $
    by ! (leaves 𝓛 f.ended stayed c z _ (Ok p) _ _))
    (λ is. nothing ! $ lands_as ! is refl (tt, (record { fits = lit< tt }, tt)) $
    first ! $ switches_on ! (get_tag ! (vrt ! refl (fld ! refl (stop !))) (whole !)) $
    exec ! 𝓣.C 𝓣.Λ (env code.function.locals l) (arm_body 1 (head (after 1 code.function.body))) (then_runs 𝓛 𝓣.C 𝓣.Λ (env code.function.locals l) (after 2 code.function.body) (at_ret (env code.function.locals l) Post)) $
    sets ! (agg ! (no_more !)) refl (tt, tt) $
    sets_last ! (agg ! (and_then ! (lit ! tt) (and_then ! (get ! refl) (no_more !)))) refl (tt, (record { fits = lit< tt }, (tt, tt))) $
    exec ! 𝓣.C 𝓣.Λ (env code.function.locals l) (after 2 code.function.body) (at_ret (env code.function.locals l) Post) $
    sets ! (of_opd ! (get ! refl)) refl (tt, (record { fits = lit< tt }, (tt, tt))) $
    returns ! (look_at ! 0 refl) $ free_all ! refl $
    use0 𝓛 (‵ (Answer.own_val (Err (record {})) (answer_val false 0 0 ∷ []))) (Answer-err 𝓛) $
    nothing ! $ nothing ! $ fjoin ! $ nothing ! $ fjoin ! $ nothing ! $ fjoin ! $ move ! (3 ∷ 0 ∷ 1 ∷ 2 ∷ []) $
    by ! (leaves 𝓛 f.ended stayed c z _ (Err (record {})) _ _)))))))))

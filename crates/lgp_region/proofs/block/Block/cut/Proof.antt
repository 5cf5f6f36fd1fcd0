-- `cut` takes the bytes apart: the first of them lie at the block's place, and the others that many bytes after it.
use Rattle.std.proofs.Common.{◌≡◌, ◌+◌, ◌-◌, ◌%◌, ◌≤◌, List, [], ◌∷◌, ◌++◌, refl, ap, ◌∙◌, arith, w64}
use Rattle.std.proofs.raw_atomic.Walks.{proved_at, leaves}
use Rattle.std.proofs.alloc.Calls.{Goes-blank}
use Rattle.std.proofs.alloc.Shapes.{after}
use base.Logic.{SProp, emp, id⊢, never}
use contract.Monad.{fact, fact_i}
use contract.Running.{tables}
use denote.Builtin.{usize}
use denote.RattleType.{owns}
use denote.RawPtr.{Ptr, block_ptr, in_a_block}
use denote.Signature.{plain, types_at}
use denote.Steps.{nothing, heard}
use denote.Struct.Rest.{own_shut}
use denote.Struct.Tuple.{Tuple, tuple_type}
use denote.Triple.Entry.{alive}
use denote.Triple.Walked.{Stays, stay_dropped, walk_of, Goes-dropped}
use mir.Val.{Val, vint, vptr, vstruct, vcons, vnil}
use prog.Wp.{WpFn}
use types.ByLocal.{alloc_all, pass_all, free_all, look_at, get, get_in, sets, sets_last, is, env}
use types.Kit.{‵, raw, ◌⊛◌, prop, at_ret, ◌$◌, ◌∵◌, !, qed, by, move, drop, use0, use1, split, join, regoal, fsplit, fjoin}
use types.Part.{whole, sub, agg}
use types.Run.{enter, of_opd, bin, stop, fld, no_more, and_then, first, blocks, exec, returns}
use Rattle.lgp_region.specs.Room.{bytes_at}
use Rattle.lgp_region.specs.contracts.block.Block as block
use Rattle.lgp_region.specs.contracts.block.Block.cut as f
use Rattle.lgp_region.proofs.block.Block.cut.Statement.{statement}
use Rattle.lgp_region.proofs.block.Block.cut.Code as code
use Rattle.lgp_region.proofs.BlockValue.{block_val, block_laws, block_at, block_made}
use Rattle.lgp_region.proofs.block.Block.TheLaws.{the_told}
use Rattle.lgp_region.proofs.UnitLemmas.{bytes_cut}

abbrev stayed : Stays f.ended.signature.params f.ended.kept
stayed = (stay_dropped (plain (λ _. block.the_row)) f.ended.kept.0, (stay_dropped (plain (λ _. usize)) f.ended.kept.1.0, tt))

pub cut_spec : {M : Type 1} → statement M
cut_spec 𝓤 𝓛 𝓜 𝓡 wired =
    let c = f.clauses 𝓛 𝓜.mem 𝓡.returns in
    let 𝓣 = tables 𝓤 𝓛.H 𝓜 𝓡 𝓡.env in
    proved_at 𝓛 f.ended stayed c 𝓜 𝓡
    (Goes-blank 𝓛 0 (plain (λ _. block.the_row)) f.ended.kept.0 (λ κs x g. tt), (Goes-dropped 𝓛 0 (plain (λ _. usize)) f.ended.kept.1.0 (λ κs x w. refl), tt))
    _ _ (code.unfolded 𝓤 𝓛.H 𝓜 𝓡 wired) (λ z are.
    let Post : Val → SProp 𝓤 = (walk_of 𝓛 f.ended stayed c).post z in
    let a = z.0.3 in let vss = z.0.4 in let x = a.0 in let all = x.size in let n = a.1.0 in
    qed 𝓛 ((raw (alive 𝓛 f.signature z.0.0 z.0.1) ⊛ ‵ (owns (types_at f.signature.params z.0.0) a vss))
    ∷ (raw (fact 𝓤 (n % 16 ≡ 0)) ⊛ raw (fact 𝓤 (n ≤ all))) ∷ []) ∵
    move ! (1 ∷ []) $ split ! $ heard ! (n % 16 ≡ 0) (λ units. heard ! (n ≤ all) (λ within.
    -- only the bytes are left of what is owned
    split ! $ move ! (1 ∷ []) $ fsplit ! $ fsplit ! $ drop ! $ move ! (1 ∷ []) $ drop ! $
    in_a_block ! x.at (λ p. bytes_at p all) (id⊢ 𝓤 (never 𝓤)) (λ b o at.
    let here : Ptr = block_ptr b o in let there : Ptr = block_ptr b (o + n) in let pair : Val = vstruct (vcons (block_val here) (vcons (block_val there) vnil)) in
    use1 𝓛 (‵ (bytes_at here n) ⊛ ‵ (bytes_at there (all - n))) (bytes_cut 𝓛 b o n all units within) $ split ! $
    regoal ! (λ (us : List Val). prop (WpFn 𝓤 𝓛.H 𝓣.C 𝓣.Λ code.function us Post))
    (λ i. (the_told.tells x vss.0 are.0 ∙ ap (λ (p : Ptr). block_val p ∷ []) at) i ++ (are.1.0.0 i ++ [])) refl $
    enter ! 𝓣.C 𝓣.Λ code.function (block_val here ∷ vint w64 n ∷ []) Post $
    alloc_all ! (λ l. pass_all ! refl ((tt, (tt, tt)), ((tt, record { fits = are.1.0.1 }), tt)) $
    sets ! (of_opd ! (get_in ! (fld ! refl (stop !)) (sub ! 0 refl (whole !)))) refl (tt, tt) $
    first ! $ blocks ! $
    sets_last ! (is ! (bin ! (get ! refl) (get ! refl) tt) (ap (vptr b) (omega arith))) refl (tt, tt) $
    exec ! 𝓣.C 𝓣.Λ (env code.function.locals l) (after 2 code.function.body) (at_ret _ Post) $
    sets ! (of_opd ! (get ! refl)) refl (tt, tt) $
    sets ! (agg ! (and_then ! (get ! refl) (no_more !))) refl (tt, (tt, tt)) $
    sets ! (agg ! (and_then ! (get ! refl) (no_more !))) refl (tt, (tt, tt)) $
    sets ! (agg ! (and_then ! (get ! refl) (and_then ! (get ! refl) (no_more !)))) refl (tt, ((tt, tt), ((tt, tt), tt))) $
    returns ! (look_at ! 0 refl) $ free_all ! refl $
    -- [the first bytes; those after them; the tokens]
    let front : (block.the_row).Denot = record { at = here; size = n } in let rest : (block.the_row).Denot = record { at = there; size = all - n } in
    use1 𝓛 (‵ (block_at here n)) (block_made 𝓛 here n) $ move ! (1 ∷ []) $ use1 𝓛 (‵ (block_at there (all - n))) (block_made 𝓛 there (all - n)) $
    nothing ! $ move ! (1 ∷ 0 ∷ []) $ fjoin ! $ move ! (1 ∷ 0 ∷ []) $ fjoin ! $
    use1 𝓛 (‵ ((Tuple (block.the_row ∷ block.the_row ∷ [])).own_val (front, rest) (pair ∷ []))) (own_shut 𝓛 (tuple_type (block.the_row ∷ block.the_row ∷ [])) (block_laws, (block_laws, tt)) (front, (rest, tt))) $
    use0 𝓛 (raw (fact 𝓤 (all - n ≡ all - n))) (fact_i 𝓤 (all - n ≡ all - n) (emp 𝓤) refl) $
    use0 𝓛 (raw (fact 𝓤 (n ≡ n))) (fact_i 𝓤 (n ≡ n) (emp 𝓤) refl) $ join ! $
    nothing ! $ nothing ! $ fjoin ! $ nothing ! $ fjoin ! $ move ! (3 ∷ 0 ∷ 2 ∷ 1 ∷ []) $
    by ! (leaves 𝓛 f.ended stayed c z _ (front, rest) _ _))))))

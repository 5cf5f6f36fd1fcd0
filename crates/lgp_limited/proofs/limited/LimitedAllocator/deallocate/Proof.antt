-- `deallocate` counts the block, and gives it back to the inner allocator. At null there is no block, so that case does not occur.
use Rattle.std.proofs.Common.{◌≡◌, ℕ, List, [], ◌∷◌, refl, ap, w64}
use Rattle.std.proofs.raw_atomic.Walks.{proved}
use Rattle.std.proofs.alloc.Calls.{Al, seen, token, Gives, at_gives, Gives-goes, Gives-Gives}
use base.Logic.{id⊢, fst∗, never}
use base.Fml.{ftrue, flft, fsep}
use contract.BorrowLft.{◌⊑◌, ⊑_trans}
use contract.Monad.{fact}
use contract.Running.{tables}
use denote.Builtin.{usize, unit}
use denote.Exit.{yes}
use denote.Opens.{unhide}
use denote.Plain.{uint_vals, uint_Tells}
use denote.RattleType.{owns}
use denote.RawPtr.{Ptr, RawPtr, block_ptr, null_ptr, room_for, ptr_val, rawptr_vals, rawptr_Tells, in_a_block}
use denote.Ref.{shr_vals}
use denote.Signature.{plain, types_at}
use denote.Steps.{heard, nothing, only}
use denote.Triple.Call.{calls_at}
use denote.Triple.Spec.{triple_of}
use denote.Triple.Table.{framed}
use denote.Triple.Walked.{Stays, stay_dropped, walk_of, ends_at, Goes-dropped}
use mir.MapTy.{inst_fn}
use mir.Syntax.{Fn}
use mir.Val.{Val, vunit, vint, vptr}
use prog.Wp.{WpFn}
use types.Logic.{sem}
use types.ByLocal.{alloc_all, pass_all, free_all, look_at, get, through, sets, lands_as}
use types.Kit.{‵, raw, ◌⊛◌, some, later, given, prop, ◌$◌, ◌∵◌, !, qed, done, move, keep, use1, use2, split, split3, join, fsplit, fjoin, feq_i, feq_l, pick, drop, learn, await, regoal, group, suffices}
use types.Run.{enter, of_opd, unit_lit, addr, stop, fld, no_more, and_then, returns}
use Rattle.lgp_limited.specs.contracts.counts.takes_back as counts
use Rattle.lgp_limited.proofs.counts.takes_back.Met.{met as counts_met}
use Rattle.lgp_limited.specs.contracts.limited.LimitedAllocator.deallocate as f
use Rattle.lgp_limited.proofs.limited.LimitedAllocator.deallocate.Statement.{statement}
use Rattle.lgp_limited.proofs.limited.LimitedAllocator.deallocate.Code as code
use Rattle.lgp_limited.proofs.Handle.{over, self, inner_at, counts_at, IsAsked}

module _ (B : Al) where
  -- the body, at B
  abbrev here : Fn
  here = inst_fn (over B) code.function

  -- the walk hands back none of the parameters
  abbrev stayed : Stays (f.ended B.row B.g B.d B.drops).signature.params (f.ended B.row B.g B.d B.drops).kept
  stayed = (stay_dropped (self B) yes, (stay_dropped (plain (λ _. RawPtr)) yes, (stay_dropped (plain (λ _. usize)) yes, (stay_dropped (plain (λ _. usize)) yes, tt))))

pub deallocate_spec : {M : Type 1} → statement M
deallocate_spec 𝓤 𝓛 𝓜 𝓡 wired row laws g d drops met _ =
    let B : Al = record { row = row; laws = laws; g = g; d = d; drops = drops } in
    let c = f.clauses row g d drops 𝓛 𝓜.mem 𝓡.returns in
    let W = walk_of 𝓛 (f.ended row g d drops) (stayed B) c in
    let 𝓣 = tables 𝓤 𝓛.H 𝓜 𝓡 𝓡.env in
    let number = Goes-dropped 𝓛 2 (plain (λ _. usize)) yes (λ κs x w. refl) in
    proved 𝓛 (f.ended row g d drops) (stayed B) c 𝓜 𝓡
    (Goes-dropped 𝓛 2 (self B) yes (λ κs x w. refl), (Goes-dropped 𝓛 2 (plain (λ _. RawPtr)) yes (λ κs x w. refl), (number, (number, tt))))
    (f.Key.name (over B)) (here B) (code.unfolded 𝓤 𝓛.H 𝓜 𝓡 wired (row, tt) d drops)
    (λ κs. (shr_vals, (rawptr_vals, (uint_vals w64, (uint_vals w64, tt)))))
    (λ κs. ((λ r vs s. s.0), (rawptr_Tells, (uint_Tells w64, (uint_Tells w64, tt))))) (λ κs qs bounds a ty are.
    let κ = κs.0 in let q = qs.0 in let bytes = a.1.1.0 in let alignment = a.1.1.1.0 in let inner = a.0.now.inner in
    let at = inner_at B a.0.ref_ptr in let count_at = counts_at B a.0.ref_ptr in
    -- what is passed, and what the walk is about, for each pointer
    let passed : Ptr → List Val = λ ptr. vptr a.0.ref_ptr.0 a.0.ref_ptr.1 ∷ ptr_val ptr ∷ vint w64 bytes ∷ vint w64 alignment ∷ [] in
    let y : Ptr → W.Ghost = λ ptr. ((κs, qs, bounds, (a.0, (ptr, a.1.1)), (shr_vals a.0, (rawptr_vals ptr, (uint_vals w64 bytes, (uint_vals w64 alignment, tt))))), ty) in
    -- the call of `takes_back`
    let Counts = triple_of 𝓛 counts.signature (counts.spec 𝓛 𝓜.mem 𝓡.returns) in
    let x : Counts.Ghost = (((κ, tt), (q, tt), tt, (record { ref_ptr = count_at; now = a.0.now.counts }, tt), (vptr count_at.0 count_at.1 ∷ [], tt)), tt) in
    -- the call of the inner `deallocate`
    let Frees = Gives B 𝓛 𝓜.mem 𝓡.returns in
    let z : ℕ → ℕ → Frees.Ghost = λ b o. at_gives B 𝓛 𝓜.mem 𝓡.returns κ q at inner b o bytes alignment ty in
    -- what is owned of a block lies at a place b, o; then `self` is taken apart, and what is not needed is dropped
    qed 𝓛 (((‵ (flft κ q) ⊛ ‵ (flft κs.1.0 qs.1.0) ⊛ ‵ ftrue) ⊛ ‵ (owns (types_at (f.signature row).params κs) a (y a.1.0).0.4))
    ∷ (raw (fact 𝓤 (κs.1.0 ⊑ row.lives)) ⊛ raw (fact 𝓤 (IsAsked ty bytes alignment)) ⊛ ‵ (fsep (room_for ty a.1.0) (token B inner ty a.1.0))) ∷ []) ∵
    move ! (1 ∷ []) $ split3 ! $ heard ! _ (λ outlived. heard ! _ (λ asked.
    in_a_block ! a.1.0 (λ ptr. fsep (room_for ty ptr) (token B inner ty ptr)) (fst∗ 𝓤 (never 𝓤) (sem 𝓛 (token B inner ty null_ptr))) (λ b o is_at.
    regoal ! (λ ptr. prop (WpFn 𝓤 𝓛.H 𝓣.C 𝓣.Λ (here B) (passed ptr) (W.post (y ptr)))) is_at refl $
    fsplit ! $ move ! (2 ∷ []) $ split ! $ split ! $ move ! (2 ∷ []) $ fsplit ! $ fsplit ! $ move ! (1 ∷ []) $ unhide ! $ fsplit ! $
    fsplit ! $ use1 𝓛 (‵ (seen B κ at inner)) (id⊢ 𝓤 _) $ move ! (1 ∷ []) $ fsplit ! $ keep ! (0 ∷ 6 ∷ 8 ∷ 9 ∷ 2 ∷ 7 ∷ []) $
    enter ! _ _ _ _ _ $ alloc_all ! (λ l. pass_all ! refl ((tt, tt), ((tt, tt), ((tt, record { fits = are.1.1.0.1 }), ((tt, record { fits = are.1.1.1.0.1 }), tt)))) $
    -- [the counts; the token of κ; the block's room; the right to free it; the inner allocator; the other tokens], and the counts are handed to `takes_back`
    sets ! (addr ! (through ! refl (fld ! refl (stop !)))) refl (tt, tt) $
    feq_i ! _ (vptr count_at.0 count_at.1 ∷ []) _ refl $ fjoin ! $ nothing ! $ move ! (1 ∷ 0 ∷ []) $ fjoin ! $
    nothing ! $ move ! (2 ∷ 0 ∷ []) $ join ! $ join ! $ nothing ! $ move ! (1 ∷ 0 ∷ []) $ use2 𝓛 (raw (Counts.pre x)) (id⊢ 𝓤 _) $
    calls_at ! (framed 𝓤 𝓛.H 𝓜 𝓣) Counts (counts_met 𝓤 𝓛 𝓜 𝓡 (code.calls-lgp_limited::counts::takes_back 𝓡.env wired)) x
    (and_then ! (get ! refl) (no_more !)) (λ u.
    use1 𝓛 (later (some (λ (t : Unit {0}). ((‵ (flft κ q) ⊛ ‵ ftrue) ⊛ ‵ (unit.own_val t (u ∷ []))) ⊛
    some (λ (last : Unit {0} × Unit {0}). ‵ (fsep ftrue ftrue) ⊛ ‵ ftrue)))) (id⊢ 𝓤 _) $ await ! tt $ pick ! (λ t.
    split ! $ split ! $ move ! (1 ∷ []) $ feq_l ! (λ is_counted. lands_as ! (ap only is_counted) refl (tt, tt) $
    split ! $ move ! (1 ∷ 2 ∷ []) $ drop ! $ drop ! $ move ! (1 ∷ 2 ∷ 3 ∷ []) $
    -- [the block's room; the right to free it; the inner allocator; the token of κ; the other tokens], of which the call takes four
    sets ! (addr ! (through ! refl (fld ! refl (stop !)))) refl (tt, tt) $
    group ! 4 $ use1 𝓛 (raw (Frees.pre (z b o))) (Gives-goes B 𝓛 𝓜.mem 𝓡.returns κ q at inner
    (⊑_trans κ κs.1.0 row.lives bounds.0 outlived) b o bytes alignment ty asked.0 asked.1 are.1.1.0.1 are.1.1.1.0.1) $
    calls_at ! (framed 𝓤 𝓛.H 𝓜 𝓣) Frees (met.deallocate drops) (z b o)
    (and_then ! (get ! refl) (and_then ! (get ! refl) (and_then ! (get ! refl) (and_then ! (get ! refl) (no_more !))))) (λ v.
    use1 𝓛 (later (given (v ≡ vunit) (‵ (flft κ q)))) (Gives-Gives B 𝓛 𝓜.mem 𝓡.returns κ q at inner b o bytes alignment ty v) $
    await ! tt $ learn ! (λ is_unit. lands_as ! is_unit refl (tt, tt) $
    -- [the token of κ; the other tokens]
    sets ! (of_opd ! (unit_lit !)) refl (tt, tt) $ returns ! (look_at ! 0 refl) $ free_all ! refl $
    suffices ! _ (ends_at 𝓛 (f.ended row g d drops) (stayed B) c (y (block_ptr b o)) vunit tt (tt, (tt, (tt, (tt, tt)))) (tt, (tt, (tt, (tt, tt))))) $
    nothing ! $ feq_i ! _ (vunit ∷ []) _ refl $ nothing ! $ nothing ! $ fjoin ! $ nothing ! $ fjoin ! $ nothing ! $ fjoin ! $ nothing ! $ fjoin ! $ join ! $
    move ! (2 ∷ 3 ∷ []) $ join ! $ join ! $ done !))))))))))

-- `allocate` counts the growth, and then refuses it or answers what the inner allocator answers.
use Rattle.std.proofs.Common.{Bool, true, false, [], ◌∷◌, Ok, Err, refl, ap, w64}
use Rattle.std.proofs.raw_atomic.Walks.{proved}
use Rattle.std.proofs.alloc.Calls.{Al, seen, token, Answer, answer_val, Answer-typed, Answer-Ok, Answer-err, Takes, at_takes, Answered, Takes-goes, Takes-gives, answers}
use base.Logic.{ent, emp, id⊢}
use base.Fml.{ftrue, flft, fsep}
use contract.BorrowLft.{◌⊑◌, ⊑_trans}
use contract.Monad.{fact}
use contract.Running.{tables}
use denote.Builtin.{usize, bool}
use denote.Exit.{yes}
use denote.Opens.{unhide}
use denote.Plain.{uint_vals, uint_Tells}
use denote.RattleType.{owns}
use denote.RawPtr.{block_ptr}
use denote.Ref.{shr_vals}
use denote.Signature.{plain, types_at}
use denote.Steps.{heard, nothing, only}
use denote.Triple.Call.{calls_at}
use denote.Triple.Spec.{triple_of}
use denote.Triple.Table.{framed}
use denote.Triple.Walked.{Stays, stay_dropped, walk_of, ends_at, Goes-dropped}
use mir.MapTy.{inst_fn}
use mir.Syntax.{Fn}
use mir.Val.{Val, vptr}
use types.ByLocal.{alloc_all, pass_all, free_all, look_at, get, through, sets, lands_as, env}
use types.Kit.{‵, raw, ◌⊛◌, some, later, at_ret, prop, Sq, ◌$◌, ◌∵◌, !, qed, done, move, keep, use0, use1, use2, split, join, fsplit, fjoin, feq_i, feq_l, pick, drop, await, suffices}
use types.Logic.{sem}
use types.Part.{agg}
use types.Run.{enter, lit, addr, stop, fld, no_more, and_then, first, branches, skips, exec, returns, returns_within}
use Rattle.std.proofs.VecSteps.Shapes.{after}
use Rattle.std.specs.Allocator.{block_if_ok}
use Rattle.lgp_limited.specs.contracts.counts.refuses as counts
use Rattle.lgp_limited.proofs.counts.refuses.Met.{met as counts_met}
use Rattle.lgp_limited.specs.contracts.limited.LimitedAllocator.allocate as f
use Rattle.lgp_limited.proofs.limited.LimitedAllocator.allocate.Statement.{statement}
use Rattle.lgp_limited.proofs.limited.LimitedAllocator.allocate.Code as code
use Rattle.lgp_limited.proofs.Handle.{over, self, inner_at, counts_at, IsAsked}

module _ (B : Al) where
  -- the body, at B
  abbrev here : Fn
  here = inst_fn (over B) code.function

  -- the walk hands back none of the parameters
  abbrev stayed : Stays (f.ended B.row B.g B.d B.drops).signature.params (f.ended B.row B.g B.d B.drops).kept
  stayed = (stay_dropped (self B) yes, (stay_dropped (plain (λ _. usize)) yes, (stay_dropped (plain (λ _. usize)) yes, tt)))

pub allocate_spec : {M : Type 1} → statement M
allocate_spec 𝓤 𝓛 𝓜 𝓡 wired row laws g d drops met _ =
    let B : Al = record { row = row; laws = laws; g = g; d = d; drops = drops } in
    let c = f.clauses row g d drops 𝓛 𝓜.mem 𝓡.returns in
    let W = walk_of 𝓛 (f.ended row g d drops) (stayed B) c in
    let 𝓣 = tables 𝓤 𝓛.H 𝓜 𝓡 𝓡.env in
    let number = Goes-dropped 𝓛 2 (plain (λ _. usize)) yes (λ κs x w. refl) in
    proved 𝓛 (f.ended row g d drops) (stayed B) c 𝓜 𝓡 (Goes-dropped 𝓛 2 (self B) yes (λ κs x w. refl), (number, (number, tt)))
    (f.Key.name (over B)) (here B) (code.unfolded 𝓤 𝓛.H 𝓜 𝓡 wired (row, tt) d drops)
    (λ κs. (shr_vals, (uint_vals w64, (uint_vals w64, tt)))) (λ κs. ((λ r vs s. s.0), (uint_Tells w64, (uint_Tells w64, tt)))) (λ κs qs bounds a ty are.
    let κ = κs.0 in let q = qs.0 in let bytes = a.1.0 in let alignment = a.1.1.0 in let inner = a.0.now.inner in
    let at = inner_at B a.0.ref_ptr in let count_at = counts_at B a.0.ref_ptr in
    let y : W.Ghost = ((κs, qs, bounds, a, (shr_vals a.0, (uint_vals w64 bytes, (uint_vals w64 alignment, tt)))), ty) in
    -- the call of `refuses`
    let Counts = triple_of 𝓛 counts.signature (counts.spec 𝓛 𝓜.mem 𝓡.returns) in
    let x : Counts.Ghost = (((κ, tt), (q, tt), tt, (record { ref_ptr = count_at; now = a.0.now.counts }, tt), (vptr count_at.0 count_at.1 ∷ [], tt)), tt) in
    -- the call of the inner `allocate`
    let Asks = Takes B 𝓛 𝓜.mem 𝓡.returns in
    let z : Asks.Ghost = at_takes B 𝓛 𝓜.mem 𝓡.returns κ q at inner bytes alignment ty in
    -- the end, with the answer r, which is v for the machine and owns nothing by itself
    let ends : (v : Val) (r : Answer.Denot) → ent 𝓤 (emp 𝓤) (sem 𝓛 (Answer.own_val r (v ∷ [])))
    → Sq 𝓛 (‵ (block_if_ok (token B inner) ty r) ∷ ‵ (flft κ q) ∷ (‵ (flft κs.1.0 qs.1.0) ⊛ ‵ ftrue) ∷ []) (prop (W.post y v))
    = λ v r made. suffices ! _ (ends_at 𝓛 (f.ended row g d drops) (stayed B) c y v r (tt, (tt, (tt, tt))) (tt, (tt, (tt, tt)))) $
    use0 𝓛 (‵ (Answer.own_val r (v ∷ []))) made $
    nothing ! $ nothing ! $ fjoin ! $ nothing ! $ fjoin ! $ nothing ! $ fjoin ! $ join ! $ move ! (2 ∷ 3 ∷ []) $ join ! $ join ! $ done ! in
    -- `self` is taken apart into its two places, and what is not needed is dropped
    qed 𝓛 (((‵ (flft κ q) ⊛ ‵ (flft κs.1.0 qs.1.0) ⊛ ‵ ftrue) ⊛ ‵ (owns (types_at (f.signature row).params κs) a y.0.4))
    ∷ (raw (fact 𝓤 (κs.1.0 ⊑ row.lives)) ⊛ raw (fact 𝓤 (IsAsked ty bytes alignment))) ∷ []) ∵
    move ! (1 ∷ []) $ split ! $ heard ! _ (λ outlived. heard ! _ (λ asked.
    split ! $ split ! $ move ! (2 ∷ []) $ fsplit ! $ fsplit ! $ move ! (1 ∷ []) $ unhide ! $ fsplit ! $
    fsplit ! $ use1 𝓛 (‵ (seen B κ at inner)) (id⊢ 𝓤 _) $ move ! (1 ∷ []) $ fsplit ! $ keep ! (0 ∷ 6 ∷ 2 ∷ 7 ∷ []) $
    enter ! _ _ _ _ _ $ alloc_all ! (λ l. pass_all ! refl ((tt, tt), ((tt, record { fits = are.1.0.1 }), ((tt, record { fits = are.1.1.0.1 }), tt))) $
    -- [the counts; the token of κ; the inner allocator; the other tokens], and the counts are handed to `refuses`
    sets ! (addr ! (through ! refl (fld ! refl (stop !)))) refl (tt, tt) $
    feq_i ! _ (vptr count_at.0 count_at.1 ∷ []) _ refl $ fjoin ! $ nothing ! $ move ! (1 ∷ 0 ∷ []) $ fjoin ! $
    nothing ! $ move ! (2 ∷ 0 ∷ []) $ join ! $ join ! $ nothing ! $ move ! (1 ∷ 0 ∷ []) $ use2 𝓛 (raw (Counts.pre x)) (id⊢ 𝓤 _) $
    calls_at ! (framed 𝓤 𝓛.H 𝓜 𝓣) Counts (counts_met 𝓤 𝓛 𝓜 𝓡 (code.calls-lgp_limited::counts::refuses 𝓡.env wired)) x
    (and_then ! (get ! refl) (no_more !)) (λ v.
    use1 𝓛 (later (some (λ (refused : Bool). ((‵ (flft κ q) ⊛ ‵ ftrue) ⊛ ‵ (bool.own_val refused (v ∷ []))) ⊛
    some (λ (last : Unit {0} × Unit {0}). ‵ (fsep ftrue ftrue) ⊛ ‵ ftrue)))) (id⊢ 𝓤 _) $ await ! tt $ pick ! (λ refused.
    split ! $ split ! $ move ! (1 ∷ []) $ feq_l ! (λ is_refused. lands_as ! (ap only is_refused) refl (tt, tt) $
    split ! $ move ! (1 ∷ 2 ∷ []) $ drop ! $ drop ! $
    -- [the token of κ; the inner allocator; the other tokens]
    first ! $ branches ! (get ! refl)
    -- it is refused: the answer is made here
    (λ _. sets ! (agg ! (no_more !)) refl (tt, tt) $
    sets ! (agg ! (and_then ! (lit ! tt) (and_then ! (get ! refl) (no_more !)))) refl (Answer-typed false 0 0) $
    returns_within ! (W.post y) refl (look_at ! 0 refl) $ free_all ! refl $ move ! (1 ∷ []) $ drop ! $
    nothing ! $ ends (answer_val false 0 0) (Err (record {})) (Answer-err 𝓛))
    -- it is not: the inner allocator is asked, and its answer is passed on
    (λ _. skips ! $ exec ! 𝓣.C 𝓣.Λ (env (here B).locals l) (after 3 (here B).body) (at_ret _ (W.post y)) $
    sets ! (addr ! (through ! refl (fld ! refl (stop !)))) refl (tt, tt) $
    move ! (1 ∷ 0 ∷ []) $ use2 𝓛 (raw (Asks.pre z)) (Takes-goes B 𝓛 𝓜.mem 𝓡.returns κ q at inner
    (⊑_trans κ κs.1.0 row.lives bounds.0 outlived) bytes alignment ty asked.0 asked.1 are.1.0.1 are.1.1.0.1) $
    calls_at ! (framed 𝓤 𝓛.H 𝓜 𝓣) Asks (met.allocate drops) z
    (and_then ! (get ! refl) (and_then ! (get ! refl) (and_then ! (get ! refl) (no_more !)))) (λ u.
    use1 𝓛 (later (raw (Answered B 𝓛 𝓜.mem 𝓡.returns inner ty u) ⊛ ‵ (flft κ q))) (Takes-gives B 𝓛 𝓜.mem 𝓡.returns κ q at inner bytes alignment ty u) $
    await ! tt $ split ! $ answers B ! 𝓜.mem 𝓡.returns inner ty u
    (λ b o is_block. fjoin ! $ lands_as ! is_block refl (Answer-typed true b o) $ returns ! (look_at ! 0 refl) $ free_all ! refl $
    ends (answer_val true b o) (Ok (block_ptr b o)) (Answer-Ok 𝓛 b o))
    (λ is_error. nothing ! $ lands_as ! is_error refl (Answer-typed false 0 0) $ returns ! (look_at ! 0 refl) $ free_all ! refl $
    ends (answer_val false 0 0) (Err (record {})) (Answer-err 𝓛)))))))))))

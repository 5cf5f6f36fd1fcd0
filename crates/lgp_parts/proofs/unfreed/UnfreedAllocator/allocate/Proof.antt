-- `allocate` answers that there is no memory.
use Rattle.std.proofs.Common.{◌≡◌, false, List, [], ◌∷◌, ◌++◌, refl, w64, Err}
use Rattle.std.proofs.alloc.Calls.{Answer, answer_val, Answer-typed, Answer-err}
use Rattle.std.proofs.raw_atomic.Walks.{proved_at, leaves}
use base.Logic.{SProp}
use contract.Monad.{fact}
use contract.Running.{tables}
use denote.Builtin.{RefOf, usize}
use denote.RattleType.{owns}
use denote.Signature.{Slot, plain, types_at}
use denote.Steps.{nothing}
use denote.Triple.Entry.{alive}
use denote.Triple.Walked.{Stays, stay_dropped, walk_of, Goes-dropped}
use mir.Syntax.{Ty}
use mir.Val.{Val, vint, vptr}
use prog.Memory.{size, align, capped}
use prog.Wp.{WpFn}
use types.ByLocal.{alloc_all, pass_all, free_all, look_at, get, sets}
use types.Kit.{‵, raw, ◌⊛◌, prop, ◌$◌, ◌∵◌, !, qed, by, move, keep, use0, split, regoal, fjoin}
use types.Part.{agg}
use types.Run.{enter, lit, no_more, and_then, returns}
use Rattle.lgp_parts.specs.contracts.unfreed.Unfreed as unfreed
use Rattle.lgp_parts.specs.contracts.unfreed.UnfreedAllocator.allocate as f
use Rattle.lgp_parts.proofs.unfreed.UnfreedAllocator.allocate.Statement.{statement}
use Rattle.lgp_parts.proofs.unfreed.UnfreedAllocator.allocate.Code as code

abbrev self : Slot 1
self = RefOf (0 ∷ []) tt (plain (λ _. unfreed.the_row)) (λ _. tt)

abbrev number : Slot 1
number = plain (λ _. usize)

abbrev stayed : Stays f.ended.signature.params f.ended.kept
stayed = (stay_dropped self f.ended.kept.0, (stay_dropped number f.ended.kept.1.0, (stay_dropped number f.ended.kept.1.1.0, tt)))

pub allocate_spec : {M : Type 1} → statement M
allocate_spec 𝓤 𝓛 𝓜 𝓡 wired =
    let c = f.clauses 𝓛 𝓜.mem 𝓡.returns in
    let 𝓣 = tables 𝓤 𝓛.H 𝓜 𝓡 𝓡.env in
    proved_at 𝓛 f.ended stayed c 𝓜 𝓡
    (Goes-dropped 𝓛 1 self f.ended.kept.0 (λ κs x w. refl), (Goes-dropped 𝓛 1 number f.ended.kept.1.0 (λ κs x w. refl), (Goes-dropped 𝓛 1 number f.ended.kept.1.1.0 (λ κs x w. refl), tt)))
    f.Key.name code.function (code.unfolded 𝓤 𝓛.H 𝓜 𝓡 wired) (λ z are.
    let Post : Val → SProp 𝓤 = (walk_of 𝓛 f.ended stayed c).post z in
    let a = z.0.3 in let vss = z.0.4 in let type : Ty = z.1 in let n = a.1.0 in let alignment = a.1.1.0 in
    let passed : List Val = vptr a.0.ref_ptr.0 a.0.ref_ptr.1 ∷ vint w64 n ∷ vint w64 alignment ∷ [] in
    let IsAsked : Type 0 = (capped (size type) ≡ n) × (capped (align type) ≡ alignment) in
    qed 𝓛 ((raw (alive 𝓛 f.signature z.0.0 z.0.1) ⊛ ‵ (owns (types_at f.signature.params z.0.0) a vss)) ∷ raw (fact 𝓤 IsAsked) ∷ []) ∵
    split ! $ keep ! (0 ∷ []) $
    regoal ! (λ (us : List Val). prop (WpFn 𝓤 𝓛.H 𝓣.C 𝓣.Λ code.function us Post)) (λ i. are.0.0 i ++ (are.1.0.0 i ++ (are.1.1.0.0 i ++ []))) refl $
    enter ! 𝓣.C 𝓣.Λ code.function passed Post $
    alloc_all ! (λ l. pass_all ! refl ((tt, tt), ((tt, record { fits = are.1.0.1 }), ((tt, record { fits = are.1.1.0.1 }), tt))) $
    sets ! (agg ! (no_more !)) refl (tt, tt) $
    sets ! (agg ! (and_then ! (lit ! tt) (and_then ! (get ! refl) (no_more !)))) refl (Answer-typed false 0 0) $
    returns ! (look_at ! 0 refl) $ free_all ! refl $ nothing ! $
    use0 𝓛 (‵ (Answer.own_val (Err (record {})) (answer_val false 0 0 ∷ []))) (Answer-err 𝓛) $
    nothing ! $ nothing ! $ fjoin ! $ nothing ! $ fjoin ! $ nothing ! $ fjoin ! $ move ! (3 ∷ 0 ∷ 1 ∷ 2 ∷ []) $
    by ! (leaves 𝓛 f.ended stayed c z (answer_val false 0 0) (Err (record {})) (tt, (tt, (tt, tt))) (tt, (tt, (tt, tt))))))

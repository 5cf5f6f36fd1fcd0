-- What is given: a reply, a text, and nothing for a number that says nothing.
use Rattle.std.proofs.Common.{◌≡◌, ℕ, suc, ◌+◌, ◌-◌, ◌<◌, ◌≤◌, ◌==◌, Bool, true, false, cond, nat_lt, None, Result, Ok, Err, IfOk, IsErr, OnOk, List, [], ◌++◌, refl, sym, ap, subst, ◌∙◌, arith}
use Rattle.std.proofs.lemmas.Bool.Decides.{nat_tests}
use Rattle.lgp_stream.specs.declared.stream.StreamFault.{StreamFault}
use Rattle.lgp_call.specs.Reply.{IsGiven, IsGivenUnlessMemory, IsTextGiven}
use Rattle.lgp_desk.specs.Desk.{Seat, closing_text}
use Rattle.lgp_call.specs.Session.{SessionState, questions_in}
use Rattle.lgp_call.specs.Status.{answered_status}
use Rattle.lgp_call.specs.Telling.{after_told, forgetful, told_of}
use Rattle.lgp_call.specs.declared.script.Outcome.{Outcome}

-- ---- a reply, which has a status below those that say why none is given

answered-small : (questions : ℕ) → answered_status questions < 2
answered-small questions = by_test (nat_lt 0 questions) where
  by_test : (any : Bool) → cond any 1 0 < 2
  by_test true = grind arith
  by_test false = grind arith

never-both : (status small : ℕ) → status ≡ small → small < 2 → 2 ≤ status → ⊥
never-both status small is less more = grind arith

pub given-reply : (refused said : Bool) (reply given before after : List ℕ) (outcome : Outcome) (status : ℕ) → said ≡ refused → given ≡ reply → IsGiven said given before after outcome status
    → IsGivenUnlessMemory refused reply before after outcome status
given-reply refused said reply given before after outcome status so is has = record {
  given = λ less. subst (λ (it : Bool). IsGiven it reply before after outcome status) so (subst (λ (text : List ℕ). IsGiven said text before after outcome status) is has);
  refused = λ more. absurd (never-both status (answered_status (questions_in said)) has.status_of (answered-small (questions_in said)) more);
}

-- ---- a text, which was put after none

pub text-given : (answered : Result ℕ StreamFault) (text : List ℕ) (questions : ℕ) (none new replies before after : List ℕ) (outcome : Outcome) (status : ℕ)
    → none ≡ [] → OnOk answered (new ≡ none ++ text) → IfOk answered (λ count. count ≡ questions) → replies ≡ new
    → IfOk answered (λ count. IsTextGiven replies count before after outcome status)
    → (IsErr answered → (any : List ℕ) → (count : ℕ) → IsTextGiven any count before after outcome status)
    → IsTextGiven text questions before after outcome status
text-given (Ok count) text questions none new replies before after outcome status empty put counted is given refused =
    let same : replies ≡ text = is ∙ (put ∙ ap (λ (front : List ℕ). front ++ text) empty) in
    subst (λ (number : ℕ). IsTextGiven text number before after outcome status) counted (subst (λ (it : List ℕ). IsTextGiven it count before after outcome status) same given)
text-given (Err fault) text questions none new replies before after outcome status empty put counted is given refused = refused refl text questions

-- ---- a number that says nothing

ten-more : (more : ℕ) → 10 + more ≡ suc (suc (suc (suc (suc (suc (suc (suc (suc (suc more)))))))))
ten-more more = grind arith

none-told : (what : ℕ) (text : List ℕ) → what ≡ 10 + (what - 10) → told_of what text ≡ None
none-told what text is = subst (λ (number : ℕ). told_of number text ≡ None) (sym (is ∙ ten-more (what - 10))) refl

not-zero : (what more : ℕ) → what ≡ 10 + more → (what == 0) ≡ false
not-zero what more is = grind (arith, nat_tests)

pub nothing-told : (session : SessionState) (what : ℕ) (text : List ℕ) → what ≡ 10 + (what - 10) → forgetful session.seat ≡ (after_told session what text).seat
nothing-told session what text is = rw (not-zero what (what - 10) is) (rw (none-told what text is) refl)

-- ---- what is said at the end does not ask what was refused before

pub forgotten-closing : (seat : Seat) → closing_text (forgetful seat) ≡ closing_text seat
unfolding closing_text
forgotten-closing seat = refl

-- After how many orders a condition is met as often as is waited for, and the run that ends there.
use Rattle.std.proofs.Common.{◌≡◌, ◌∙◌, ℕ, zero, suc, ◌+◌, ◌<◌, ◌≤◌, ◌==◌, Bool, true, false, if◌then◌else◌, Ok, refl, sym, ap, subst, arith, ⊎_elim}
use Rattle.std.proofs.lemmas.Bool.{cases_lt, eq-eqb, ne_eqb}
use Rattle.lgp_table.specs.State.{State}
use Rattle.lgp_debugger.specs.Debugging.{Debugging}
use Rattle.lgp_debugger.specs.Run.{IsRun}
use Rattle.lgp_debugger.specs.declared.fault.Reason.TheVariants.{Limit, Rest}
use Rattle.lgp_debugger.proofs.RunLemmas.{HasRun, rests, run_limited, run_rested}
use Rattle.lgp_when.specs.Until.{is_done, least, orders_until}
use Rattle.lgp_table.specs.Activity.{next}
use Rattle.lgp_table.specs.After.{after}
use Rattle.lgp_table.proofs.After.{after_one_more}
use Rattle.lgp_when.specs.When.{meets, times_met}
use Rattle.lgp_when.specs.declared.condition.Condition.{Condition}
use Rattle.lgp_when.specs.Meeting.{IsMeeting}
use Rattle.lgp_when.specs.WhenInside.{IsWatching, end_reason}
use Rattle.lgp_when.specs.declared.meeting.Meeting.{Meeting}
use Rattle.lgp_when.specs.declared.watch.Watch.{Watch}
use Rattle.lgp_when.specs.declared.until.Until.{Until}

-- ---- the least number

later : (passes : ℕ → Bool) (limit done : ℕ) → ((k : ℕ) → k ≤ done → passes k ≡ false) → done < limit → done < least passes limit
unfolding least
later passes zero done none below = absurd (omega arith)
later passes (suc limit) zero none below = rw (none 0 (omega arith)) (omega arith)
later passes (suc limit) (suc done) none below =
    let rest = later (λ k. passes (suc k)) limit done (λ k few. none (suc k) (omega arith)) (omega arith) in
    rw (none 0 (omega arith)) (omega arith)

there : (passes : ℕ → Bool) (limit done : ℕ) → ((k : ℕ) → k < done → passes k ≡ false) → passes done ≡ true → done ≤ limit → least passes limit ≡ done
unfolding least
there passes zero done none is within = omega arith
there passes (suc limit) zero none is within = rw is refl
there passes (suc limit) (suc done) none is within =
    rw (none 0 (omega arith)) (ap suc (there (λ k. passes (suc k)) limit done (λ k few. none (suc k) (omega arith)) is (omega arith)))

nowhere : (passes : ℕ → Bool) (limit : ℕ) → ((k : ℕ) → k < limit → passes k ≡ false) → least passes limit ≡ limit
unfolding least
nowhere passes zero none = refl
nowhere passes (suc limit) none =
    rw (none 0 (omega arith)) (ap suc (nowhere (λ k. passes (suc k)) limit (λ k few. none (suc k) (omega arith))))

-- ---- how often a condition is met

pub none_met : (condition : Condition) (s : State) → times_met condition s 0 ≡ 0
unfolding times_met
none_met condition s = refl

pub one_more : (condition : Condition) (s : State) (count : ℕ) → times_met condition s (count + 1) ≡ times_met condition s count + (if meets (after s count) condition then 1 else 0)
unfolding times_met
one_more condition s count = let same : count + 1 ≡ suc count = omega arith in rw same refl

abbrev one_if : Bool → ℕ
one_if b = if b then 1 else 0

-- one order more was looked at
pub watching_more : (watch : Watch) (meeting : Meeting) (left : ℕ) (s : State) (count : ℕ) (met : Bool) → IsWatching watch s count → meeting.condition ≡ watch.meeting.condition
    → IsMeeting meeting (next (after s count)) → met ≡ meets (after s count) watch.meeting.condition → watch.left ≡ left + one_if met
    → IsWatching (record { meeting = meeting; times = watch.times; left = left }) s (count + 1)
watching_more watch meeting left s count met watching condition seen is less = record {
  meeting = subst (IsMeeting meeting) (sym (after_one_more s count)) seen;
  left = let more = one_more watch.meeting.condition s count in
      let same = ap (λ (b : Bool). one_if b) is in
      let met_as_often = ap (λ (c : Condition). times_met c s (count + 1)) condition in
      omega (arith, met_as_often, more, same, less, watching.left);
}

-- none of the first orders ends the wait
abbrev pub AreBefore : Until → State → ℕ → Type 0
AreBefore until s count = (k : ℕ) → k < count → is_done until s k ≡ false

pub before_any : (until : Until) (s : State) → AreBefore until s 0
before_any until s = λ k few. absurd (omega arith)

pub before_more : (until : Until) (s : State) (count : ℕ) → AreBefore until s count → is_done until s count ≡ false → AreBefore until s (count + 1)
before_more until s count before not k few =
    ⊎_elim
    (λ less. before k less)
    (λ most. let same : k ≡ count = omega arith in subst (λ (n : ℕ). is_done until s n ≡ false) (sym same) not)
    (cases_lt k count)

pub some_left : (left : ℕ) → (left ≡ 0 → ⊥) → 0 < left
some_left zero not = absurd (not refl)
some_left (suc left) not = omega arith

pub is_not_done : (until : Until) (s : State) (count left : ℕ) → times_met until.condition s count + left ≡ until.times → 0 < left → is_done until s count ≡ false
is_not_done until s count left is some = ne_eqb (times_met until.condition s count) until.times (λ same. omega arith)

-- whether it is done, by how often the condition is still to be met
pub done_by_left : (until : Until) (s : State) (count left : ℕ) → times_met until.condition s count + left ≡ until.times → (left == 0) ≡ is_done until s count
done_by_left until s count zero is = sym (eq-eqb (times_met until.condition s count) until.times (omega arith))
done_by_left until s count (suc left) is = ne_eqb (suc left) 0 (λ same. omega arith) ∙ sym (is_not_done until s count (suc left) is (omega arith))

-- ---- the run that ends there

module _ (until : Until) (limit : ℕ) (first now : Debugging) (done : ℕ) (before : AreBefore until first.state done) where
  pub goes_further : is_done until first.state done ≡ false → done < limit → done < orders_until until limit first.state
  goes_further not below = later (is_done until first.state) limit done (λ k few. before_more until first.state done before not k (omega arith)) below

  ended_so : (n : ℕ) (run : HasRun (λ rules. rules) first now done) (is_at_rest : Bool) → rests now.state ≡ is_at_rest → n ≡ done
      → IsRun first.rules n first now (Ok (record { orders = done; reason = if is_at_rest then Rest else Limit }))
  ended_so n run true rest same = run_rested (λ rules. rules) first now now done n run (omega arith) rest refl
  ended_so n run false busy same =
      subst (λ (k : ℕ). IsRun first.rules n first now (Ok (record { orders = k; reason = Limit }))) same (run_limited (λ rules. rules) first now now done n run same busy refl)

  pub ended_met : HasRun (λ rules. rules) first now done → is_done until first.state done ≡ true → done ≤ limit
      → IsRun first.rules (orders_until until limit first.state) first now (Ok (record { orders = done; reason = end_reason now.state }))
  ended_met run met within = ended_so _ run _ refl (there (is_done until first.state) limit done before met within)

  pub ended_limited : HasRun (λ rules. rules) first now done → limit ≡ done
      → IsRun first.rules (orders_until until limit first.state) first now (Ok (record { orders = done; reason = end_reason now.state }))
  ended_limited run all =
      ended_so _ run _ refl (nowhere (is_done until first.state) limit (subst (λ (n : ℕ). AreBefore until first.state n) (sym all) before) ∙ all)

-- Where the loop ends, the run has ended so, and whether the condition was met is known by how often it is still to be met.
use Rattle.std.proofs.Common.{◌≡◌, ◌∙◌, ℕ, ◌+◌, ◌≤◌, ◌==◌, true, Ok, Err, ap, arith, subst, sym}
use Rattle.lgp_debugger.specs.Debugging.{Debugging}
use Rattle.lgp_debugger.specs.Run.{IsRun}
use Rattle.lgp_debugger.proofs.PerformedLemmas.{performed_state}
use Rattle.lgp_debugger.proofs.RunLemmas.{run_begun, run_refused_at_clock_end, run_refused_at_rest, run_refused_memory, run_step, run_stopped}
use Rattle.lgp_table.specs.State.{State}
use Rattle.lgp_debugger.specs.declared.fault.Ran.{Ran}
use Rattle.std.proofs.lemmas.Bool.{eq-eqb}
use Rattle.lgp_when.specs.Until.{is_done, orders_until}
use Rattle.lgp_when.specs.When.{times_met}
use Rattle.lgp_when.specs.declared.condition.Condition.{Condition}
use Rattle.lgp_when.specs.declared.until.Until.{Until}
use Rattle.lgp_when.specs.declared.watch.Watch.{Watch}
use Rattle.lgp_when.specs.Meeting.{IsMeeting}
use Rattle.lgp_when.specs.WhenInside.{IsWatching, end_reason}
use Rattle.lgp_when.proofs.UntilLemmas.{before_any, before_more, done_by_left, ended_limited, ended_met, goes_further, is_not_done, some_left}
use Rattle.lgp_when.proofs.until.run_until.Goals as goal

-- what is waited for, by what the watch says of it
left_of : (watch : Watch) (until : Until) (s : State) (count : ℕ) → IsWatching watch s count → watch.meeting.condition ≡ until.condition → watch.times ≡ until.times
    → times_met until.condition s count + watch.left ≡ until.times
left_of watch until s count watching condition times =
    ap (λ (c : Condition). times_met c s count + watch.left) (sym condition) ∙ (watching.left ∙ times)

pub loop-orders-init : goal.loop-orders-init
loop-orders-init g c = record {
  run = run_begun _ _;
  watching = c.new-watch.ensures.watching;
  before = before_any _ _;
  condition = c.new-watch.ensures.condition;
  times = c.new-watch.ensures.times;
}

pub returns-then-watch-eq0 : goal.returns-then-watch-eq0
returns-then-watch-eq0 g c =
    let i = c.loop-orders.invariant in
    let left = left_of c.loop-orders.watch c.args.until.now _ _ i.watching i.condition i.times in
    let met = sym (done_by_left c.args.until.now c.args.debugger.now.state c.loop-orders.orders c.loop-orders.watch.left left) ∙ eq-eqb c.loop-orders.watch.left 0 c.if-watch-eq0.true in
    record {
      run = subst (λ (ran : Ran). IsRun c.args.debugger.now.rules (orders_until c.args.until.now c.args.limit c.args.debugger.now.state) c.args.debugger.now c.loop-orders.debugger (Ok ran))
          (sym c.ended-ran.ensures)
          (ended_met c.args.until.now c.args.limit c.args.debugger.now c.loop-orders.debugger c.loop-orders.orders i.before i.run met (omega arith));
      met = subst (λ (ran : Ran). true ≡ is_done c.args.until.now c.args.debugger.now.state ran.orders) (sym c.ended-ran.ensures) (sym met);
      unmet = tt;
      within = subst (λ (ran : Ran). ran.orders ≤ c.args.limit) (sym c.ended-ran.ensures) (omega arith);
    }

pub order-requires-clause-meeting : goal.order-requires-clause-meeting
order-requires-clause-meeting g c =
    let i = c.loop-orders.invariant in
    subst (IsMeeting c.loop-orders.watch.meeting) (sym (ap (λ (d : Debugging). d.state) i.run.reached ∙ performed_state _ _)) i.watching.meeting

pub returns-in-Ok-Some : goal.returns-in-Ok-Some
returns-in-Ok-Some g c =
    let i = c.loop-orders.invariant in
    let left = left_of c.loop-orders.watch c.args.until.now _ _ i.watching i.condition i.times in
    let not = is_not_done c.args.until.now c.args.debugger.now.state c.loop-orders.orders c.loop-orders.watch.left left (some_left c.loop-orders.watch.left c.if-watch-eq0.false) in
    let goes = goes_further c.args.until.now c.args.limit c.args.debugger.now c.loop-orders.debugger c.loop-orders.orders i.before not c.loop-orders-test.true in
    let watching = c.in-Ok-Some.ensures.watched _ _ i.watching (ap (λ (d : Debugging). d.state) i.run.reached ∙ performed_state _ _) in
    let later = left_of c.order.new.self c.args.until.now _ _ watching (c.order.ensures.condition ∙ i.condition) (c.order.ensures.times ∙ i.times) in
    record {
      run = run_stopped (λ rules. rules) c.args.debugger.now c.loop-orders.debugger c.order.new.debugger c.loop-orders.orders (orders_until c.args.until.now c.args.limit c.args.debugger.now.state) i.run
          _ c.in-Ok-Some.rule (ap Ok c.in-Ok-Some.field-0-is) c.in-Ok-Some.ensures.order goes;
      met = done_by_left c.args.until.now c.args.debugger.now.state _ c.order.new.self.left later;
      unmet = tt;
      within = omega (arith, c.loop-orders-test.true);
    }

pub returns-in-Err-AtRest : goal.returns-in-Err-AtRest
returns-in-Err-AtRest g c =
    let i = c.loop-orders.invariant in
    let left = left_of c.loop-orders.watch c.args.until.now _ _ i.watching i.condition i.times in
    let not = is_not_done c.args.until.now c.args.debugger.now.state c.loop-orders.orders c.loop-orders.watch.left left (some_left c.loop-orders.watch.left c.if-watch-eq0.false) in
    let goes = goes_further c.args.until.now c.args.limit c.args.debugger.now c.loop-orders.debugger c.loop-orders.orders i.before not c.loop-orders-test.true in
    record {
      run = run_refused_at_rest (λ rules. rules) c.args.debugger.now c.loop-orders.debugger c.order.new.debugger c.loop-orders.orders (orders_until c.args.until.now c.args.limit c.args.debugger.now.state) i.run
          _ (ap Err c.in-Err-AtRest.field-0-is) c.in-Err-AtRest.ensures.order goes;
      met = sym not;
      unmet = tt;
      within = omega (arith, c.loop-orders-test.true);
    }

pub returns-in-Err-ClockEnd : goal.returns-in-Err-ClockEnd
returns-in-Err-ClockEnd g c =
    let i = c.loop-orders.invariant in
    let left = left_of c.loop-orders.watch c.args.until.now _ _ i.watching i.condition i.times in
    let not = is_not_done c.args.until.now c.args.debugger.now.state c.loop-orders.orders c.loop-orders.watch.left left (some_left c.loop-orders.watch.left c.if-watch-eq0.false) in
    let goes = goes_further c.args.until.now c.args.limit c.args.debugger.now c.loop-orders.debugger c.loop-orders.orders i.before not c.loop-orders-test.true in
    record {
      run = run_refused_at_clock_end (λ rules. rules) c.args.debugger.now c.loop-orders.debugger c.order.new.debugger c.loop-orders.orders (orders_until c.args.until.now c.args.limit c.args.debugger.now.state) i.run
          _ (ap Err c.in-Err-ClockEnd.field-0-is) c.in-Err-ClockEnd.ensures.order goes;
      met = tt;
      unmet = not;
      within = omega (arith, c.loop-orders-test.true);
    }

pub returns-in-Err-Memory : goal.returns-in-Err-Memory
returns-in-Err-Memory g c =
    let i = c.loop-orders.invariant in
    let left = left_of c.loop-orders.watch c.args.until.now _ _ i.watching i.condition i.times in
    let not = is_not_done c.args.until.now c.args.debugger.now.state c.loop-orders.orders c.loop-orders.watch.left left (some_left c.loop-orders.watch.left c.if-watch-eq0.false) in
    let goes = goes_further c.args.until.now c.args.limit c.args.debugger.now c.loop-orders.debugger c.loop-orders.orders i.before not c.loop-orders-test.true in
    record {
      run = run_refused_memory (λ rules. rules) c.args.debugger.now c.loop-orders.debugger c.order.new.debugger c.loop-orders.orders (orders_until c.args.until.now c.args.limit c.args.debugger.now.state) i.run
          _ (ap Err c.in-Err-Memory.field-0-is) c.in-Err-Memory.ensures.order goes;
      met = tt;
      unmet = not;
      within = omega (arith, c.loop-orders-test.true);
    }

pub loop-orders-preserved : goal.loop-orders-preserved
loop-orders-preserved g c =
    let i = c.loop-orders.invariant in
    let left = left_of c.loop-orders.watch c.args.until.now _ _ i.watching i.condition i.times in
    let not = is_not_done c.args.until.now c.args.debugger.now.state c.loop-orders.orders c.loop-orders.watch.left left (some_left c.loop-orders.watch.left c.if-watch-eq0.false) in
    record {
      run = run_step (λ rules. rules) c.args.debugger.now c.loop-orders.debugger c.order.new.debugger c.loop-orders.orders c.args.limit i.run
          _ (ap Ok c.in-Ok-None.field-0-is) c.in-Ok-None.ensures.order;
      watching = c.in-Ok-None.ensures.watched _ _ i.watching (ap (λ (d : Debugging). d.state) i.run.reached ∙ performed_state _ _);
      before = before_more _ _ _ i.before not;
      condition = c.order.ensures.condition ∙ i.condition;
      times = c.order.ensures.times ∙ i.times;
    }

pub returns : goal.returns
returns g c =
    let i = c.loop-orders.invariant in
    let left = left_of c.loop-orders.watch c.args.until.now _ _ i.watching i.condition i.times in
    let all : c.args.limit ≡ c.loop-orders.orders = omega arith in
    let said = c.ended-ran-2.ensures ∙ ap (λ (n : ℕ). record { orders = n; reason = end_reason c.loop-orders.debugger.state }) all in
    record {
      run = subst (λ (ran : Ran). IsRun c.args.debugger.now.rules (orders_until c.args.until.now c.args.limit c.args.debugger.now.state) c.args.debugger.now c.loop-orders.debugger (Ok ran))
          (sym said)
          (ended_limited c.args.until.now c.args.limit c.args.debugger.now c.loop-orders.debugger c.loop-orders.orders i.before i.run all);
      met = subst (λ (ran : Ran). (c.loop-orders.watch.left == 0) ≡ is_done c.args.until.now c.args.debugger.now.state ran.orders) (sym said)
          (done_by_left c.args.until.now c.args.debugger.now.state c.loop-orders.orders c.loop-orders.watch.left left);
      unmet = tt;
      within = subst (λ (ran : Ran). ran.orders ≤ c.args.limit) (sym said) (omega arith);
    }

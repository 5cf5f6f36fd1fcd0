-- Where the loop ends, the run has ended so, and what was seen is kept.
use Rattle.std.proofs.Common.{◌≡◌, ◌∙◌, ℕ, Ok, Err, ap, arith, refl, rules, subst}
use Rattle.lgp_debugger.specs.Watching.{AreSeen, IsWatchedRun}
use Rattle.lgp_debugger.specs.declared.fault.Reason.TheVariants.{Rest}
use Rattle.lgp_debugger.specs.declared.fault.StepFault.TheVariants.{AtRest, ClockEnd, Memory}
use Rattle.lgp_debugger.specs.declared.watcher.WatchFault.TheVariants.{Refused}
use Rattle.lgp_debugger.proofs.RunLemmas.{run_begun, run_limited, run_refused_at_clock_end, run_refused_at_rest, run_refused_memory, run_rested, run_step, run_stopped}
use Rattle.lgp_debugger.proofs.WatchedLemmas.{all_watched, broken_watched, more_seen, none_seen, ordered, refused, unseen, unseen_watched}
use Rattle.lgp_debugger.proofs.debugger.Debugger.run_watched.Goals as goal

pub loop-orders-init : goal.loop-orders-init
loop-orders-init g c = record {
  run = run_begun _ _;
  seen = none_seen _ _ _;
  ready = c.requires.ready;
  same_rules = refl;
  same_eyes = λ d before after seen. seen;
}

pub loop-orders-preserved : goal.loop-orders-preserved
loop-orders-preserved g c =
    let i = c.loop-orders.invariant in
    record {
      run = run_step (g.W.Watcher.in_force c.args.watcher.now) c.args.self.now c.loop-orders.self c.order.new.debugger c.loop-orders.orders c.args.limit i.run (Ok c.in-Ok-None.field-0) (ap Ok c.in-Ok-None.field-0-is)
          (ordered (g.W.Watcher.in_force c.loop-orders.watcher) (g.W.Watcher.in_force c.args.watcher.now) i.same_rules c.loop-orders.self c.order.new.debugger _ c.in-Ok-None.ensures.order);
      seen = more_seen (g.W.Watcher.Sees c.args.watcher.now) c.args.self.now c.loop-orders.self c.args.kept.now c.loop-orders.kept c.order.new.kept c.loop-orders.orders i.run.reached i.seen (i.same_eyes _ _ _ c.in-Ok-None.ensures.seen);
      ready = c.in-Ok-None.ensures.ready;
      same_rules = c.order.ensures.same_rules ∙ i.same_rules;
      same_eyes = λ d before after seen. i.same_eyes d before after (c.order.ensures.same_eyes d before after seen);
    }

pub returns-in-Ok-Some : goal.returns-in-Ok-Some
returns-in-Ok-Some g c =
    let i = c.loop-orders.invariant in
    all_watched _ _ _ _ _ _ _
    (run_stopped (g.W.Watcher.in_force c.args.watcher.now) c.args.self.now c.loop-orders.self c.order.new.debugger c.loop-orders.orders c.args.limit i.run (Ok c.in-Ok-Some.field-0) c.in-Ok-Some.rule (ap Ok c.in-Ok-Some.field-0-is)
    (ordered (g.W.Watcher.in_force c.loop-orders.watcher) (g.W.Watcher.in_force c.args.watcher.now) i.same_rules c.loop-orders.self c.order.new.debugger _ c.in-Ok-Some.ensures.order) (omega arith))
    (omega arith)
    (more_seen (g.W.Watcher.Sees c.args.watcher.now) c.args.self.now c.loop-orders.self c.args.kept.now c.loop-orders.kept c.order.new.kept c.loop-orders.orders i.run.reached i.seen (i.same_eyes _ _ _ c.in-Ok-Some.ensures.seen))

pub returns-in-Err-Refused-AtRest : goal.returns-in-Err-Refused-AtRest
returns-in-Err-Refused-AtRest g c =
    let i = c.loop-orders.invariant in
    all_watched _ _ _ _ _ _ _
    (run_refused_at_rest (g.W.Watcher.in_force c.args.watcher.now) c.args.self.now c.loop-orders.self c.order.new.debugger c.loop-orders.orders c.args.limit i.run (Err AtRest) refl
    (refused (g.W.Watcher.in_force c.loop-orders.watcher) (g.W.Watcher.in_force c.args.watcher.now) i.same_rules c.loop-orders.self c.order.new.debugger c.in-Err-Refused-AtRest.field-0 AtRest (c.in-Err-Refused-AtRest.field-0-is ∙ ap Refused c.in-Err-Refused-AtRest.field-0-0-is) c.in-Err-Refused-AtRest.ensures.order) (omega arith))
    (omega arith)
    (rw (c.in-Err-Refused-AtRest.ensures.refused (λ is. cc (is, c.in-Err-Refused-AtRest.field-0-is))) i.seen)

pub returns-in-Err-Refused-ClockEnd : goal.returns-in-Err-Refused-ClockEnd
returns-in-Err-Refused-ClockEnd g c =
    let i = c.loop-orders.invariant in
    broken_watched _ _ _ _ _ _ _
    (run_refused_at_clock_end (g.W.Watcher.in_force c.args.watcher.now) c.args.self.now c.loop-orders.self c.order.new.debugger c.loop-orders.orders c.args.limit i.run (Err ClockEnd) refl
    (refused (g.W.Watcher.in_force c.loop-orders.watcher) (g.W.Watcher.in_force c.args.watcher.now) i.same_rules c.loop-orders.self c.order.new.debugger c.in-Err-Refused-ClockEnd.field-0 ClockEnd (c.in-Err-Refused-ClockEnd.field-0-is ∙ ap Refused c.in-Err-Refused-ClockEnd.field-0-0-is) c.in-Err-Refused-ClockEnd.ensures.order) (omega arith))
    (rw (c.in-Err-Refused-ClockEnd.ensures.refused (λ is. cc (is, c.in-Err-Refused-ClockEnd.field-0-is))) i.seen)

pub returns-in-Err-Refused-Memory : goal.returns-in-Err-Refused-Memory
returns-in-Err-Refused-Memory g c =
    let i = c.loop-orders.invariant in
    broken_watched _ _ _ _ _ _ _
    (run_refused_memory (g.W.Watcher.in_force c.args.watcher.now) c.args.self.now c.loop-orders.self c.order.new.debugger c.loop-orders.orders c.args.limit i.run (Err Memory) refl
    (refused (g.W.Watcher.in_force c.loop-orders.watcher) (g.W.Watcher.in_force c.args.watcher.now) i.same_rules c.loop-orders.self c.order.new.debugger c.in-Err-Refused-Memory.field-0 Memory (c.in-Err-Refused-Memory.field-0-is ∙ ap Refused c.in-Err-Refused-Memory.field-0-0-is) c.in-Err-Refused-Memory.ensures.order) (omega arith))
    (rw (c.in-Err-Refused-Memory.ensures.refused (λ is. cc (is, c.in-Err-Refused-Memory.field-0-is))) i.seen)

pub returns-in-Err-Unseen : goal.returns-in-Err-Unseen
returns-in-Err-Unseen g c =
    unseen_watched _ (g.W.Watcher.in_force c.args.watcher.now) _ _ c.loop-orders.self _ c.loop-orders.orders _ c.loop-orders.invariant.run
    (unseen (g.W.Watcher.in_force c.loop-orders.watcher c.loop-orders.self.rules) c.loop-orders.self c.order.new.debugger c.in-Err-Unseen.field-0 c.in-Err-Unseen.field-0-is c.in-Err-Unseen.ensures.order)
    (λ never. c.in-Err-Unseen.ensures.never never (ap Err c.in-Err-Unseen.field-0-is)) (omega arith)

pub returns-then-is_at_rest : goal.returns-then-is_at_rest
returns-then-is_at_rest g c =
    let i = c.loop-orders.invariant in
    let all : c.loop-orders.orders ≡ c.args.limit = omega arith in
    subst (λ (n : ℕ). IsWatchedRun g.W.Watcher.never_refused (g.W.Watcher.in_force c.args.watcher.now c.args.self.now.rules) c.args.limit c.args.self.now c.loop-orders.self (Ok (record { orders = n; reason = Rest }))
    (AreSeen (g.W.Watcher.Sees c.args.watcher.now) c.args.self.now c.args.kept.now n c.loop-orders.kept)) all
    (all_watched _ _ _ _ _ _ _
    (run_rested (g.W.Watcher.in_force c.args.watcher.now) c.args.self.now c.loop-orders.self c.loop-orders.self c.loop-orders.orders c.args.limit i.run (omega arith) (search rules) refl)
    (omega arith) i.seen)

pub returns-else-is_at_rest : goal.returns-else-is_at_rest
returns-else-is_at_rest g c =
    let i = c.loop-orders.invariant in
    let all : c.loop-orders.orders ≡ c.args.limit = omega arith in
    all_watched _ _ _ _ _ _ _
    (run_limited (g.W.Watcher.in_force c.args.watcher.now) c.args.self.now c.loop-orders.self c.loop-orders.self c.loop-orders.orders c.args.limit i.run (omega arith) (search rules) refl)
    (omega arith)
    (subst (λ (n : ℕ). AreSeen (g.W.Watcher.Sees c.args.watcher.now) c.args.self.now c.args.kept.now n c.loop-orders.kept) all i.seen)

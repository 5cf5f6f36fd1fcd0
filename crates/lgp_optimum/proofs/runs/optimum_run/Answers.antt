-- Where the loop ends, the run has ended so, and its orders are noted.
use Rattle.std.proofs.Common.{◌≡◌, ◌∙◌, ℕ, ap, arith, refl, rules, subst, Err, Ok}
use Rattle.lgp_table.specs.After.{after}
use Rattle.lgp_debugger.specs.Debugging.{Debugging}
use Rattle.lgp_debugger.specs.Run.{IsRun}
use Rattle.lgp_debugger.specs.declared.fault.Reason.TheVariants.{Rest}
use Rattle.lgp_debugger.proofs.PerformedLemmas.{performed_state}
use Rattle.lgp_debugger.proofs.RunLemmas.{run_begun, run_limited, run_refused_at_clock_end, run_refused_at_rest, run_refused_memory, run_rested, run_step, run_stopped}
use Rattle.lgp_optimum.proofs.OptimumLemmas.{shows_same, took_within}
use Rattle.lgp_optimum.proofs.runs.optimum_run.Goals as goal

-- the debugger is where a given number of orders lead
stands : (g : _) (c : goal.In-Ok-None g) → c.loop-orders.debugger.state ≡ after c.args.debugger.now.state c.loop-orders.orders
stands g c = ap (λ (d : Debugging). d.state) c.loop-orders.invariant.run.reached ∙ performed_state _ _

pub loop-orders-init : goal.loop-orders-init
loop-orders-init g c = record { run = run_begun _ _; notes = c.clear.ensures _ }

pub note_order-requires : goal.note_order-requires
note_order-requires g c =
    took_within _ _ _ _ c.loop-orders.invariant.notes
    (ap (λ (d : Debugging). d.state) c.loop-orders.invariant.run.reached ∙ performed_state _ _)

pub loop-orders-preserved : goal.loop-orders-preserved
loop-orders-preserved g c = record {
  run = run_step _ c.args.debugger.now c.loop-orders.debugger c.note_order.new.debugger c.loop-orders.orders c.args.limit c.loop-orders.invariant.run
      _ (ap Ok c.in-Ok-None.field-0-is) c.in-Ok-None.ensures.order;
  notes = c.in-Ok-None.ensures.noted _ _ c.loop-orders.invariant.notes (stands g c);
}

pub returns-in-Ok-Some-clause-run : goal.returns-in-Ok-Some-clause-run
returns-in-Ok-Some-clause-run g c =
    run_stopped _ _ c.loop-orders.debugger c.note_order.new.debugger c.loop-orders.orders c.args.limit c.loop-orders.invariant.run
    _ c.in-Ok-Some.rule (ap Ok c.in-Ok-Some.field-0-is) c.in-Ok-Some.ensures.order c.loop-orders-test.true

pub returns-in-Ok-Some-clause-noted : goal.returns-in-Ok-Some-clause-noted
returns-in-Ok-Some-clause-noted g c =
    c.in-Ok-Some.ensures.noted _ _ c.loop-orders.invariant.notes
    (ap (λ (d : Debugging). d.state) c.loop-orders.invariant.run.reached ∙ performed_state _ _)

pub returns-in-Err-AtRest-clause-run : goal.returns-in-Err-AtRest-clause-run
returns-in-Err-AtRest-clause-run g c =
    run_refused_at_rest _ c.args.debugger.now c.loop-orders.debugger c.note_order.new.debugger c.loop-orders.orders c.args.limit c.loop-orders.invariant.run
    _ (ap Err c.in-Err-AtRest.field-0-is) c.in-Err-AtRest.ensures.order c.loop-orders-test.true

pub returns-in-Err-AtRest-clause-noted : goal.returns-in-Err-AtRest-clause-noted
returns-in-Err-AtRest-clause-noted g c = shows_same _ _ _ _ c.loop-orders.invariant.notes c.in-Err-AtRest.ensures.same

pub returns-in-Err-ClockEnd-clause-run : goal.returns-in-Err-ClockEnd-clause-run
returns-in-Err-ClockEnd-clause-run g c =
    run_refused_at_clock_end _ c.args.debugger.now c.loop-orders.debugger c.note_order.new.debugger c.loop-orders.orders c.args.limit c.loop-orders.invariant.run
    _ (ap Err c.in-Err-ClockEnd.field-0-is) c.in-Err-ClockEnd.ensures.order c.loop-orders-test.true

pub returns-in-Err-ClockEnd-clause-noted : goal.returns-in-Err-ClockEnd-clause-noted
returns-in-Err-ClockEnd-clause-noted g c = shows_same _ _ _ _ c.loop-orders.invariant.notes c.in-Err-ClockEnd.ensures.same

pub returns-in-Err-Memory-clause-run : goal.returns-in-Err-Memory-clause-run
returns-in-Err-Memory-clause-run g c =
    run_refused_memory _ c.args.debugger.now c.loop-orders.debugger c.note_order.new.debugger c.loop-orders.orders c.args.limit c.loop-orders.invariant.run
    _ (ap Err c.in-Err-Memory.field-0-is) c.in-Err-Memory.ensures.order c.loop-orders-test.true

pub returns-in-Err-Memory-clause-noted : goal.returns-in-Err-Memory-clause-noted
returns-in-Err-Memory-clause-noted g c = shows_same _ _ _ _ c.loop-orders.invariant.notes c.in-Err-Memory.ensures.same

pub returns-then-is_at_rest-clause-run : goal.returns-then-is_at_rest-clause-run
returns-then-is_at_rest-clause-run g c =
    let all : c.loop-orders.orders ≡ c.args.limit = omega arith in
    subst (λ (n : ℕ). IsRun c.args.debugger.now.rules c.args.limit c.args.debugger.now c.loop-orders.debugger (Ok (record { orders = n; reason = Rest }))) all
    (run_rested (λ rules. rules) c.args.debugger.now c.loop-orders.debugger c.loop-orders.debugger c.loop-orders.orders c.args.limit c.loop-orders.invariant.run (omega arith) (search rules) refl)

pub returns-else-is_at_rest-clause-run : goal.returns-else-is_at_rest-clause-run
returns-else-is_at_rest-clause-run g c =
    run_limited (λ rules. rules) c.args.debugger.now c.loop-orders.debugger c.loop-orders.debugger c.loop-orders.orders c.args.limit c.loop-orders.invariant.run (omega arith) (search rules) refl

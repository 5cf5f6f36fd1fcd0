use Rattle.std.proofs.lemmas.List.{take_all}
use Rattle.std.proofs.Common.{le_trans, refl, sym, ap, arith, ◌∙◌, ◌≡◌, ◌≤◌, ◌+◌, ◌-◌, length, take}
use Rattle.lgp_history.specs.Steps.{orders_in, state_back, steps_back}
use Rattle.lgp_history.specs.CheckpointsInside.{played_to, start_of}
use Rattle.lgp_history.proofs.KeptSteps.{bool_byte-few, bool_byte-order, order_count, state_back-none, steps_back-none}
use Rattle.lgp_history.proofs.Trails.{kept_to, kept_to-all, nothing_within, place_back, some_kept}
use Rattle.lgp_history.proofs.checkpoints.place_of.Goals as goal

pub loop-left-init : goal.loop-left-init
loop-left-init g c =
    let es = c.args.trail.now.items in
    let s = start_of es in
    let end : length es ≤ c.len-place.result = omega arith in
    let all = kept_to-all s es c.args.passed c.len-place.result end in
    let kept : c.args.orders ≤ orders_in (kept_to s es c.args.passed c.len-place.result) = rw all c.requires.kept in
    let some = some_kept s es c.args.passed c.len-place.result (le_trans c.requires.some kept) in
    record {
      within = omega arith;
      passed = omega arith;
      moved = λ none. omega arith;
      kept = kept;
      state = rw (all, take_all c.len-place.result es end) refl;
      steps = rw all refl;
    }

pub unreachable-requires : goal.unreachable-requires
unreachable-requires g c =
    grind (arith, some_kept, nothing_within)

pub loop-left-preserved : goal.loop-left-preserved
loop-left-preserved g c =
    let es = c.args.trail.now.items in
    let s = start_of es in
    let m = c.loop-left.left - c.from-left.result in
    let count = bool_byte-order _ _ c.is_order.ensures in
    let few = bool_byte-few c.is_order.result in
    let some = some_kept s es c.args.passed c.loop-left.place (omega arith) in
    let whole : m + order_count c.in-Some.noted.now.step ≡ c.loop-left.left = omega arith in
    let b = place_back s es c.args.passed (c.loop-left.place - 1) c.loop-left.place c.in-Some.noted.now m (omega arith) (omega arith) (sym c.in-Some.ensures) (omega arith) (omega arith) in
    record {
      within = omega arith;
      passed = omega arith;
      moved = λ _. omega arith;
      kept = b.kept;
      state = sym b.state ∙ ap (λ n. state_back n (kept_to s es c.args.passed c.loop-left.place) (played_to s (take c.loop-left.place es))) whole ∙ c.loop-left.invariant.state;
      steps = sym b.steps ∙ ap (λ n. steps_back n (kept_to s es c.args.passed c.loop-left.place)) whole ∙ c.loop-left.invariant.steps;
    }

pub returns-clause-within : goal.returns-clause-within
returns-clause-within g c = (c.loop-left.invariant.passed, c.loop-left.invariant.moved (omega arith))

pub returns-clause-state : goal.returns-clause-state
returns-clause-state g c =
    grind (arith, state_back-none)

pub returns-clause-steps : goal.returns-clause-steps
returns-clause-steps g c =
    grind (arith, steps_back-none)

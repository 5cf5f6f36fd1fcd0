use Rattle.std.proofs.Common.{sym, ap, arith, ◌∙◌}
use Rattle.lgp_history.specs.CheckpointsInside.{hit_of}
use Rattle.lgp_history.specs.declared.checkpoints.Latest.{Latest}
use Rattle.lgp_history.proofs.Trails.{at_its_boundary, can_at, done_at, kept_to-all, kept_to-none, latest_passed, latest_skipped, nothing_within}
use Rattle.lgp_history.proofs.checkpoints.find_from.Goals as goal
use Rattle.lgp_history.proofs.checkpoints.find_from.Goals.{then-is_order, else-is_order}

pub loop-place-init : goal.loop-place-init
loop-place-init g c =
    grind (arith, kept_to-none)

pub unreachable-requires : goal.unreachable-requires
unreachable-requires g c = grind (arith, nothing_within)

pub first_hit-requires-clause-boundary : goal.first_hit-requires-clause-boundary
first_hit-requires-clause-boundary g c = at_its_boundary _ _ c.loop-place.invariant.machine

pub take_step-requires-clause-possible : goal.take_step-requires-clause-possible
take_step-requires-clause-possible g c = grind (arith, can_at)

pub loop-place-preserved : goal.loop-place-preserved
loop-place-preserved g c =
    let es = c.args.trail.now.items in
    let got = sym c.in-Some.ensures in
    record {
      machine = done_at _ _ _ es _ got c.loop-place.invariant.machine c.in_ok-take_step.ensures;
      few = elim c.if-is_order.branch [
        | then-is_order w ↦ let is = ap (λ (l : Latest). l.orders) w.latest-is in omega (arith, w.pass.ensures.orders, is)
        | else-is_order w ↦ let is = ap (λ (l : Latest). l.orders) w.latest-is in omega (arith, is)
      ];
      latest = elim c.if-is_order.branch [
        | then-is_order w ↦
            ap (λ (l : Latest). hit_of l.orders l.rule) w.latest-is
            ∙ latest_passed _ es _ _ _ _ _ _ _ c.loop-place.auto.place got (sym w.if-is_order.ensures) c.loop-place.invariant.machine c.loop-place.invariant.latest w.first_hit.ensures w.pass.ensures.hit
        | else-is_order w ↦
            ap (λ (l : Latest). hit_of l.orders l.rule) w.latest-is
            ∙ latest_skipped _ es _ _ _ _ c.loop-place.auto.place got (sym w.if-is_order.ensures) c.loop-place.invariant.latest
      ];
    }

pub returns : goal.returns
returns g c =
    grind (arith, kept_to-all)

use Rattle.std.proofs.Common.{ap, sym, subst, arith, ◌∙◌, ◌≡◌, ◌<◌, ◌-◌, List}
use Rattle.lgp_table.specs.State.{State}
use Rattle.lgp_history.specs.Steps.{CanStep, Leads, stepped, with_step}
use Rattle.lgp_history.specs.CheckpointsInside.{IsTrail, Trail, noted_after}
use Rattle.lgp_history.specs.Step.{KeptStep, Step}
use Rattle.lgp_history.proofs.KeptSteps.{leads-more}
use Rattle.lgp_history.proofs.Trails.{IsAfterNote, noted_trail, room_left}
use Rattle.lgp_history.proofs.checkpoints.CheckpointsHistory.note.Goals as goal
use Rattle.lgp_history.proofs.checkpoints.CheckpointsHistory.note.Given as given

pub cut-self-inside-requires : goal.cut-self-inside-requires
cut-self-inside-requires g c = grind (arith, room_left)

-- the trail after the step, whatever step the note fits
after : (g : given.Over) (c : goal.After-self-1 g) (before : State) (step : Step) → CanStep step before → c.args.note ≡ noted_after c.args.self.now before step → Leads c.args.self.now.steps before
    → IsAfterNote c.self.inside.trail.items c.cut-self-inside.new.trail.items c.self.inside.passed c.cut-self-inside.result (c.self.inside.trail.capacity - 64) before step
after g c before step can fits led =
    noted_trail _ _ _ _ _ _ _ _ _ _ _
    c.self.view_is c.self.invariant.0 (omega arith) can fits led c.push-passed.ensures.items c.push-passed.ensures.passed c.cut-self-inside.ensures.items c.cut-self-inside.ensures.passed

pub invariant_of-self : goal.invariant_of-self
invariant_of-self g c =
    let trail = (after g c c.requires.0 c.requires.1.0 c.requires.1.1.0 c.requires.1.1.1 c.requires.1.1.2).trail in
    let capacity = c.cut-self-inside.ensures.capacity ∙ c.push-passed.ensures.capacity in
    subst (λ n. IsTrail c.cut-self-inside.new.trail.items c.cut-self-inside.result (n - 64) × (64 < n)) (sym capacity) (trail, c.self.invariant.1)

pub returns-clause-kept : goal.returns-clause-kept
returns-clause-kept g c = λ before step can fits led.
    (after g c before step can fits led).kept ∙ ap (λ (t : Trail). with_step t.capacity t.steps before step) c.self.view_is

pub returns-clause-leads : goal.returns-clause-leads
returns-clause-leads g c = λ before step can fits led.
    let kept = (after g c before step can fits led).kept ∙ ap (λ (t : Trail). with_step t.capacity t.steps before step) c.self.view_is in
    subst (λ (ks : List KeptStep). Leads ks (stepped step before)) (sym kept) (leads-more _ _ _ _ led can)

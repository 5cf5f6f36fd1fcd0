use Rattle.std.proofs.Common.{ap, sym, subst, arith, ◌∙◌, ◌<◌, ◌-◌}
use Rattle.lgp_table.specs.Interleaving.{Configuration, at_boundary}
use Rattle.lgp_history.specs.CheckpointsInside.{IsTrail}
use Rattle.lgp_history.proofs.Trails.{IsGoneBack, IsShortened, at_its_boundary, gone_back, shortened, shown_trail}
use Rattle.lgp_history.proofs.checkpoints.CheckpointsHistory.back.Goals as goal
use Rattle.lgp_history.proofs.checkpoints.CheckpointsHistory.back.Given as given

-- the trail after going back
short : (g : given.Over) (c : goal.After-self-1 g) → IsShortened c.self.inside.trail.items c.shorten-self-inside.new.trail.items c.self.inside.passed c.shorten-self-inside.result (c.self.inside.trail.capacity - 64) c.place_of-place.result
short g c =
    shortened _ _ _ _ _ _
    c.self.invariant.0 c.place_of-place.ensures.within.0 c.place_of-place.ensures.within.1 c.shorten-self-inside.ensures.items c.shorten-self-inside.ensures.passed

-- where the machine is then
gone : (g : given.Over) (c : goal.After-self-1 g) → IsGoneBack c.args.self.now (shown_trail c.shorten-self-inside.new.trail.items c.shorten-self-inside.result (c.self.inside.trail.capacity - 64)) c.args.machine.now.state c.replace.new.machine.state c.args.orders
gone g c =
    let earlier = ap (λ (m : Configuration). m.state) (c.replace.ensures ∙ c.in-Ok.ensures) in
    gone_back _ _ _ _ _ _ _ _ _ _
    c.self.view_is c.requires.leads (omega (arith, c.place_of-place.ensures.within.0, c.place_of-place.ensures.within.1)) (short g c) c.place_of-place.ensures.state c.place_of-place.ensures.steps earlier

pub invariant_of-self : goal.invariant_of-self
invariant_of-self g c =
    subst (λ n. IsTrail c.shorten-self-inside.new.trail.items c.shorten-self-inside.result (n - 64) × (64 < n)) (sym c.shorten-self-inside.ensures.capacity) ((short g c).trail, c.self.invariant.1)

pub returns-clause-state : goal.returns-clause-state
returns-clause-state g c = at_its_boundary _ _ (c.replace.ensures ∙ c.in-Ok.ensures) ∙ ap at_boundary (gone g c).state

pub returns-clause-steps : goal.returns-clause-steps
returns-clause-steps g c = (gone g c).steps

pub returns-clause-leads : goal.returns-clause-leads
returns-clause-leads g c = (gone g c).leads

use Rattle.std.proofs.Common.{ap}
use Rattle.lgp_past.specs.Past.{all_orders}
use Rattle.lgp_past.specs.Timeline.{Timeline}
use Rattle.lgp_past.proofs.Refusals.{same_refusal}
use Rattle.lgp_past.proofs.timeline.Timeline.go_to.Goals as goal

pub returns-in-Err-clause-not_yet : goal.returns-in-Err-clause-not_yet
returns-in-Err-clause-not_yet g c orders =
    same_refusal _ _ _ _ _ (ap (λ (t : Timeline). all_orders t.story) c.self.view_is) (c.in-Err.ensures.not_yet orders)

use Rattle.std.proofs.Common.{ap, arith, length, length-drop}
use Rattle.lgp_history.specs.CheckpointsInside.{Trail, played, start_of}
use Rattle.lgp_history.proofs.Trails.{length-played}
use Rattle.lgp_history.proofs.checkpoints.CheckpointsHistory.kept.Goals as goal

pub returns-clause-count : goal.returns-clause-count
returns-clause-count g c = λ now.
    let es = c.self.inside.trail.items in
    let shows = ap (λ (t : Trail). length t.steps) c.self.view_is in
    omega (arith, shows, length-drop c.self.inside.passed (played (start_of es) es), length-played (start_of es) es)

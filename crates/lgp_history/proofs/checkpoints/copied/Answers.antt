use Rattle.std.proofs.Common.{rules}
use Rattle.lgp_history.proofs.Trails.{copied_at}
use Rattle.lgp_history.proofs.checkpoints.copied.Goals as goal

pub machine-requires : goal.machine-requires
machine-requires g c = search (rules, copied_at)

pub returns : goal.returns
returns g c =
    search (rules, copied_at)

use Rattle.std.proofs.Common.{rules}
use Rattle.lgp_loader.proofs.Ready.{none_performed, one_more_performed}
use Rattle.lgp_loader.proofs.loading.perform.Goals as goal

pub loop-init : goal.loop-init
loop-init g c = search (rules, none_performed)

pub loop-preserved : goal.loop-preserved
loop-preserved g c =
    one_more_performed _ _ _
    _ c.loop.invariant (search rules) (search rules)

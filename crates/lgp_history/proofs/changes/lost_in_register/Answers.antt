use Rattle.std.proofs.Common.{sym, ◌∙◌}
use Rattle.lgp_history.proofs.Looking.{lost_in_register}
use Rattle.lgp_history.proofs.changes.lost_in_register.Goals as goal

pub returns : goal.returns
returns g c = lost_in_register c.args.machine.now _ _ _ _ c.requires (sym c.in-Some.is ∙ c.look.ensures) c.parts-op.ensures.op c.parts-op.ensures.address c.lost_by.ensures

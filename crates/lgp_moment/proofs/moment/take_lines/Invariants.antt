use Rattle.std.proofs.Common.{length}
use Rattle.std.specs.Str.Lines.{lines}
use Rattle.lgp_moment.specs.MomentInside.{IsOnWay}
use Rattle.lgp_moment.proofs.moment.take_lines.Given as goal

abbrev pub invariant-loop-rest : goal.invariant-loop-rest
invariant-loop-rest g l = IsOnWay l.fn.session (lines l.transcript) l.fn.order l.session (lines l.rest) l.left

abbrev pub decreases-loop-rest : goal.decreases-loop-rest
decreases-loop-rest g l = length l.rest

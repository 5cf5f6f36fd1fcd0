use Rattle.std.proofs.Common.{◌≡◌, ◌++◌, take, drop}
use Rattle.lgp_source.specs.Source.{body_from, before_comment}
use Rattle.lgp_source.proofs.cutting.before_comment.Given as goal

abbrev pub invariant-loop-place : goal.invariant-loop-place
invariant-loop-place l = take l.place l.text ++ body_from l.fresh (drop l.place l.text) ≡ before_comment l.text

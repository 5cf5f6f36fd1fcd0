use Rattle.std.proofs.Common.{◌≡◌, ◌+◌, take}
use Rattle.lgp_past.specs.Past.{orders_before}
use Rattle.lgp_past.proofs.past.Past.place_of.Given as goal

abbrev pub invariant-loop-place : goal.invariant-loop-place
invariant-loop-place g l =
    orders_before (take l.place l.self.story.events) + l.left ≡ orders_before (take l.fn.from l.self.story.events) + l.fn.left
